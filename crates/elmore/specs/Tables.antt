-- The tables that the walk over the tree reads in place of the job: by segment what it has at its width, by repeater what hangs at its segment.
use Rattle.std.specs.Prelude.{◌≡◌, List, ℕ, ◌≤◌, ◌<◌, length, get_or}
use Rattle.net.specs.Net.{Net}
use Rattle.parts.specs.declared.Segment.{Segment}
use Rattle.parts.specs.declared.Part.{Part}
use Rattle.parts.specs.Entries.{part_at}
use Rattle.parts.specs.Step.{Fields}
use Rattle.parts.specs.Tally.{Hanging}

-- Entry i of a table of segments.
abbrev pub segment_at : List Segment → ℕ → Segment
segment_at t i = get_or t i record { weight = 0; sink = record { 0 = 0 }; wire = record { resistance = record { 0 = 0 }; capacitance = record { 0 = 0 } } }

-- The table has the first n segments, each at its width.
pub record SizedTo (net : Net) (x : List ℕ) (n : ℕ) (segments : List Segment) : Type 0 where
  pub long : length segments ≡ 64
  pub held : (i : ℕ) → i < n → Fields net x i (segment_at segments i)

-- The table has what hangs at the segments of the repeaters from r on.
pub record PartsFrom (net : Net) (x : List ℕ) (r : ℕ) (parts : List Part) : Type 0 where
  pub long : length parts ≡ 8
  pub held : (k : ℕ) → r ≤ k → k < net.repeaters → Hanging net x (net.site k) (part_at parts k)

-- The table has what hangs at the repeaters' segments from segment j on: a walk over segments from j on needs no more.
pub record PartsBehind (net : Net) (x : List ℕ) (j : ℕ) (parts : List Part) : Type 0 where
  pub long : length parts ≡ 8
  pub held : (r : ℕ) → r < net.repeaters → j ≤ net.site r → Hanging net x (net.site r) (part_at parts r)
