-- What the contracts of single questions ask of a job and its tables, and parts of a question.
use Rattle.std.specs.Prelude.{Bool, cond, List, ℕ, ◌+◌, ◌≤◌, ◌<◌, ltb, length, get_or}
use Rattle.lattice.specs.Lists.{every}
use Rattle.net.specs.declared.Counts.{Counts}
use Rattle.net.specs.Job.{widths_of, repeater_at}
use Rattle.net.specs.Net.{Net}
use Rattle.net.specs.Questions.{zeros}
use Rattle.links.specs.Links.{First}

-- The highest layer that has widths.
abbrev pub top_layer : Counts → ℕ
top_layer c = cond (ltb 0 (widths_of c 1)) 1 0

-- Are the unnamed bytes of the repeaters zero?
abbrev pub repeaters_zero : Counts → List ℕ → Bool
repeaters_zero c b = every c.repeaters (λ r. zeros c b (repeater_at c r + 5) 11)

-- `first` has the first segment at each node.
pub record Firsts (net : Net) (first : List ℕ) : Type 0 where
  pub nodes : net.segments < length first
  pub firsts : (q : ℕ) → q ≤ net.segments → First net q 0 (get_or first q 0)
