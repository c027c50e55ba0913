-- Texts as lists of bytes: words, and numbers as decimal digits without a leading zero.
use Rattle.std.specs.Prelude.{cond, List, [], ◌∷◌, ◌++◌, ℕ, zero, suc, ◌+◌, ◌/◌, ◌%◌, ltb}
use Prim.Native.Char.{code}
use Prim.Native.String.{String, [] as none, ◌∷◌ as ◌then◌}

-- The bytes of a quoted text of ASCII characters: the code of each.
abbrev pub ascii : String → List ℕ
ascii none = []
ascii (c then s) = code c ∷ ascii s

-- The decimal digits of n, the highest first; k bounds how many follow the first.
unfoldable pub digits : ℕ → ℕ → List ℕ
digits zero n = (48 + n) ∷ []
digits (suc k) n = cond (ltb n 10) ((48 + n) ∷ []) (digits k (n / 10) ++ (48 + n % 10) ∷ [])

-- The one spelling of a number: its digits, no zero in front.
unfoldable pub spelling : ℕ → List ℕ
spelling n = digits n n
