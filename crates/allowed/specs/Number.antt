-- The questions of a sizing, as a number: what the contracts of this crate cite.
use Rattle.std.specs.Prelude.{Bool, List, [], ◌∷◌, ℕ}
use Rattle.lattice.specs.Lists.{at}
use Rattle.net.specs.Net.{Net}
use Rattle.net.specs.Questions.{in_range, ask, first_no}
use Rattle.net.specs.Answers.{question15, question16}

-- Is the index of place p in its range?
abbrev pub index_in_range : Net → List ℕ → ℕ → Bool
index_in_range net x p = in_range (net.lowest p) (net.highest p) (at x p)

-- The first of the questions 15 and 16 that a sizing fails, or 0.
unfoldable pub sizing_number : Net → List ℕ → ℕ
sizing_number net x = first_no (ask 15 (question15 net x) ∷ ask 16 (question16 net x) ∷ [])
