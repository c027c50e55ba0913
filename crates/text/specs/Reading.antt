-- What is read at the front of a text: a number and the rest of the text, or a refusal. Cited by the laws of spelling.
use Rattle.std.specs.Prelude.{cond, ◌&&◌, ◌≡◌, List, [], ◌∷◌, ℕ, ◌+◌, ◌-◌, ◌*◌, leb, ltb}

-- A number that is found, with the rest of the text behind it, or a refusal.
pub data Reading : Type 0 where
  found : ℕ → List ℕ → Reading
  refused : Reading

-- The digit that a byte spells, or 10 where it spells none.
abbrev pub digit : ℕ → ℕ
digit c = cond (leb 48 c && leb c 57) (c - 48) 10

-- The digits that follow a number v are read on to the last; one more digit after a leading zero and a number of the limit or more are refused.
unfoldable pub read_more : ℕ → ℕ → List ℕ → Reading
read_more limit v [] = found v []
read_more limit v (c ∷ t) =
    cond (ltb (digit c) 10)
    (cond (ltb 0 v && ltb (10 * v + digit c) limit) (read_more limit (10 * v + digit c) t) refused)
    (found v (c ∷ t))

-- The number below a limit that the longest run of digits in front spells.
unfoldable pub read_number : ℕ → List ℕ → Reading
read_number limit [] = refused
read_number limit (c ∷ t) = cond (ltb (digit c) 10 && ltb (digit c) limit) (read_more limit (digit c) t) refused

-- No digit stands in front of a text.
abbrev pub NoDigit : List ℕ → Type 0
NoDigit [] = Unit {0}
NoDigit (c ∷ t) = digit c ≡ 10
