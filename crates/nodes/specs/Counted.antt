-- The table of what hangs at each node: cited by the contracts of this crate and of those above it.
use Rattle.std.specs.Prelude.{◌≡◌, List, ℕ, ◌≤◌, length}
use Rattle.net.specs.Net.{Net}
use Rattle.parts.specs.declared.Part.{Part}
use Rattle.parts.specs.Entries.{part_at}
use Rattle.parts.specs.Tally.{branches_of, Tally}

-- `nodes` has the branches at each node of the tree.
pub record Counted (net : Net) (x : List ℕ) (nodes : List Part) : Type 0 where
  pub long : length nodes ≡ 65
  pub held : (q : ℕ) → q ≤ net.segments → Tally net x branches_of q (part_at nodes q)
