-- What a walk over the tree asks of its tables, and what it answers.
use Rattle.std.specs.Prelude.{List, ℕ}
use Rattle.net.specs.Net.{Net, net_by}
use Rattle.parts.specs.declared.Part.{Part}
use Rattle.parts.specs.Tally.{Tally}
use Rattle.elmore.specs.declared.tables.Walk.{Walk}
use Rattle.elmore.specs.Tables.{PartsFrom, PartsBehind}

-- The net that is walked, and its sizing.
abbrev pub net_of : Walk → Net
net_of w = net_by w.net.now.job.counts w.net.now.job.bytes.now

abbrev pub sizing_of : Walk → List ℕ
sizing_of w = w.net.now.sizing.now

-- What a walk over the segments from j on needs is in the table of parts.
abbrev pub Parted : Walk → ℕ → Type 0
Parted w j = PartsBehind (net_of w) (sizing_of w) j w.parts

-- All that hangs at the repeaters' segments is.
abbrev pub AllParted : Walk → Type 0
AllParted w = PartsFrom (net_of w) (sizing_of w) 0 w.parts

-- r is what is counted up over a part of the tree, at j.
abbrev pub CountedUp : Walk → (Net → (ℕ → ℕ → ℕ) → ℕ → ℕ) → ℕ → Part → Type 0
CountedUp w part j r = Tally (net_of w) (sizing_of w) part j r
