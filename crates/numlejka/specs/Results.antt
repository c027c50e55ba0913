-- What a caller in C gets: the parameters after a call, and which of two slices is chosen.
use Rattle.std.specs.Prelude.{cond, List, ℕ, eqb}
use Rattle.net.specs.Answers.{choose_number, first_chosen}

-- What a parameter holds after a call: with the number 0 the answer, with every other number what it held before.
abbrev pub answered : ℕ → ℕ → ℕ → ℕ
answered number answer before = cond (eqb number 0) answer before

-- Which slice choose hands back a part of: 1 the first, 2 the second, 0 where it refuses.
unfoldable pub chosen_slice : List ℕ → List ℕ → List ℕ → ℕ
chosen_slice job x y = cond (eqb (choose_number job x y) 0) (cond (first_chosen job x y) 1 2) 0
