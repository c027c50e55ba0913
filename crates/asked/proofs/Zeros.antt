-- A word is 0 exactly where its four bytes are, so zero bytes can be tested a word at a time.
use mathlib.Core.Path.{◌≡◌, ◌∙◌, refl, sym, ap, ap₂}
use mathlib.Core.Bool.{Bool, true, false, ◌&&◌, ◌||◌, and-true}
use mathlib.Core.List.{List}
use Prim.Native.Nat.{ℕ, zero, suc, ◌+◌, ◌*◌, ◌≤◌, ◌<◌}
use native.Mathlib.Nat.{add-zero, add-suc}
use native.Mathlib.Omega.{arith}
use borrow.Author.Tests.{ne_eqb, lt-leb}
use lib.Dec.{T, leb, eqb, leb-zero, le→leb, eqb→eq, lit<}
use Rattle.lattice.specs.Lists.{every}
use Rattle.lattice.proofs.Every.{every-same}
use Rattle.lattice.proofs.ListLaws.{T_and, eq-T, every-at}
use Rattle.net.specs.declared.Counts.{Counts}
use Rattle.net.specs.Job.{byte, word, places_by, weight_at, weight_form}
use Rattle.net.specs.Questions.{in_range, zeros, weight_zeros}
use Rattle.net.proofs.Questions.{in-range}
use Rattle.runs.specs.Records.{zero_bytes, word_within}
use Rattle.weight_records.specs.Tests.{unnamed_zero}

-- two tests that give each other are one
same_test : (a b : Bool) → (T a → T b) → (T b → T a) → a ≡ b
same_test true true p q = refl
same_test true false p q = absurd (p tt)
same_test false true p q = absurd (q tt)
same_test false false p q = refl

swap : (p q r : Bool) → p && (q && r) ≡ q && (p && r)
swap true q r = refl
swap false true r = refl
swap false false r = refl

-- a test at the first n places, and at the m behind them
every-join : (n m : ℕ) (f : ℕ → Bool) → every n f && every m (λ i. f (n + i)) ≡ every (n + m) f
unfolding every
every-join n zero f = rw (add-zero n) (and-true (every n f))
every-join n (suc m) f = rw (add-suc n m) (swap (every n f) (f (n + m)) _ ∙ ap (λ t. f (n + m) && t) (every-join n m f))

module _ (b : List ℕ) where
  -- Is the byte i behind p zero?
  abbrev zero_at : ℕ → ℕ → Bool
  zero_at p i = eqb (byte b (p + i)) 0

  bytes-of-zero : (p : ℕ) → T (in_range 0 0 (word b p)) → T (every 4 (zero_at p))
  unfolding every
  bytes-of-zero p t =
      let w : word b p ≤ 0 = (in-range 0 0 (word b p) t).1 in
      T_and (zero_at p 3) _ (eq-T (byte b (p + 3)) 0 (omega arith))
      (T_and (zero_at p 2) _ (eq-T (byte b (p + 2)) 0 (omega arith))
      (T_and (zero_at p 1) _ (eq-T (byte b (p + 1)) 0 (omega arith)) (T_and (zero_at p 0) true (eq-T (byte b (p + 0)) 0 (rw (add-zero p) (omega arith))) tt)))

  zero-of-bytes : (p : ℕ) → T (every 4 (zero_at p)) → T (in_range 0 0 (word b p))
  zero-of-bytes p t =
      let zero-at : (i : ℕ) → i < 4 → byte b (p + i) ≡ 0 = λ i h. eqb→eq _ _ (every-at 4 (zero_at p) t i h) in
      let first : byte b p ≡ 0 = rw (add-zero p) at (zero-at 0 (lit< tt)) in
      T_and (leb 0 (word b p)) (leb (word b p) 0) (le→leb 0 (word b p) (omega arith))
      (le→leb (word b p) 0 (omega (arith, first, zero-at 1 (lit< tt), zero-at 2 (lit< tt), zero-at 3 (lit< tt))))

  word-zero : (p : ℕ) → in_range 0 0 (word b p) ≡ every 4 (zero_at p)
  word-zero p = same_test _ _ (bytes-of-zero p) (zero-of-bytes p)

  -- m bytes, and n behind them
  zeros-join : (p q m n : ℕ) → p + m ≡ q → every m (zero_at p) && every n (zero_at q) ≡ every (m + n) (zero_at p)
  zeros-join p q m n e =
      ap (λ t. every m (zero_at p) && t) (every-same n (zero_at q) (λ i. zero_at p (m + i)) (λ i h. let f : q + i ≡ p + (m + i) = omega arith in rw f))
      ∙ every-join m n (zero_at p)

  -- two words, one behind the other
  words-zero : (p q : ℕ) → p + 4 ≡ q → in_range 0 0 (word b p) && in_range 0 0 (word b q) ≡ every 8 (zero_at p)
  words-zero p q e = ap₂ ◌&&◌ (word-zero p) (word-zero q) ∙ zeros-join p q 4 4 e

  -- The word at `at` of a record, its last three words, and its last two with the three bytes before them.
  pub zero_word : (start at k : ℕ) → word_within b start at 0 0 k ≡ zero_bytes b start at 4 k
  zero_word start at k = word-zero (16 * (start + k) + at)

  pub zero-words : (start k : ℕ) → word_within b start 4 0 0 k && (word_within b start 8 0 0 k && word_within b start 12 0 0 k) ≡ zero_bytes b start 4 12 k
  zero-words start k =
      let p : ℕ = 16 * (start + k) in
      ap₂ ◌&&◌ (word-zero (p + 4)) (words-zero (p + 8) (p + 12) (omega arith)) ∙ zeros-join (p + 4) (p + 8) 4 8 (omega arith)

  pub zero-behind : (start k : ℕ) → zero_bytes b start 5 3 k && (word_within b start 8 0 0 k && word_within b start 12 0 0 k) ≡ zero_bytes b start 5 11 k
  zero-behind start k =
      let p : ℕ = 16 * (start + k) in
      ap (λ t. zero_bytes b start 5 3 k && t) (words-zero (p + 8) (p + 12) (omega arith)) ∙ zeros-join (p + 5) (p + 8) 3 8 (omega arith)

  -- the tests of a weight record's bytes, a word at a time
  zero-within : (w : ℕ) → eqb w 0 ≡ in_range 0 0 w
  zero-within zero = refl
  zero-within (suc w) = rw (ne_eqb (suc w) 0 (λ e. omega arith), leb-zero (suc w), lt-leb (suc w) 0 (omega arith))

  one_byte : (p : ℕ) → eqb (byte b p) 0 ≡ every 1 (zero_at p)
  unfolding every
  one_byte p = rw (add-zero p) (sym (and-true (eqb (byte b p) 0)))

  pub weight-zero : (c : Counts) (start k : ℕ) → start + k ≡ c.widths + c.sizes + (places_by c + k) → unnamed_zero b start k ≡ weight_zeros c b k
  unfolding weight_zeros zeros
  weight-zero c start k e =
      let p : ℕ = weight_at c k in
      rw e
      (ap₂ ◌&&◌ (one_byte (p + 3))
      (ap₂ ◌&&◌
      (ap (λ t. eqb (weight_form c b k) 1 || t) (zero-within (word b (p + 4)) ∙ word-zero (p + 4)))
      (ap (λ t. eqb (weight_form c b k) 2 || t) (ap₂ ◌&&◌ (zero-within (word b (p + 8))) (zero-within (word b (p + 12))) ∙ words-zero (p + 8) (p + 12) (omega arith)))))
