-- What a fraction counts, by the tests of the machine's product.
use Rattle.std.proofs.Common.{◌≡◌, ℕ, zero, suc, ◌<◌, Bool, true, false, cond, T, pos, sym, refl, ap, ◌∙◌, subst, ⊎_elim, true≢false, le_of_suc-le-suc, not-suc-le-zero, eq-or-lt_of_le}
use mathlib.Core.Bool.{false≢true}
use lib.Dec.{not_T}
use lib.Ieee.{Float, fin, binary64, mul, of_int, to_unsigned, eq, fits}
use lib.Ieee.Bits.{is_true, is_false}
use Rattle.lattice.specs.Lists.{some}
use Rattle.net.specs.Weights.{last_at, counts_as, fraction_count}
use Rattle.lattice.proofs.ListLaws.{some_at, at_some}
use Rattle.sinks.proofs.Whole.{holds, equal-says, whole-part}
use Rattle.sinks.proofs.Exact.{counts-once, product-says, product-holds}
use Rattle.sinks.specs.Told.{CountOf}
use Rattle.std.specs.Bool.{then_some}

-- `last_at` is g at the one place at which the test holds.
last_at-is : (n : ℕ) (f : ℕ → Bool) (g : ℕ → ℕ) (d k : ℕ) → k < n → f k ≡ true → ((j : ℕ) → f j ≡ true → j ≡ k) → last_at n f g d ≡ g k
unfolding last_at
last_at-is zero f g d k h t once = absurd (not-suc-le-zero h)
last_at-is (suc n) f g d k h t once = go (f n) refl (λ l. last_at-is n f g d k l t once)
  where
    go : (b : Bool) → f n ≡ b → (k < n → last_at n f g d ≡ g k) → cond b (g n) (last_at n f g d) ≡ g k
    go true e rest = ap g (once n e)
    go false e rest = ⊎_elim (λ (p : k ≡ n). absurd (false≢true (sym e ∙ ap f (sym p) ∙ t))) rest (eq-or-lt_of_le (le_of_suc-le-suc h))

-- A fraction that counts as a k below 256 is accepted, and k is what it counts.
pub accepted : (x : Float) (k : ℕ) → k < 256 → counts_as x k ≡ true → (some 256 (counts_as x) ≡ true) × (k ≡ fraction_count x)
unfolding fraction_count
accepted x k h t = (
  is_true (some 256 (counts_as x)) (at_some 256 (counts_as x) k h (holds t)),
  sym (last_at-is 256 (counts_as x) (λ j. j) 0 k h t (λ j u. counts-once x j k u t)),
)

-- A fraction is refused where a test fails that would hold of one that counts as a k below 256.
pub refused : (x : Float) {b : Bool} → b ≡ false → ((k : ℕ) → k < 256 → counts_as x k ≡ true → b ≡ true) → some 256 (counts_as x) ≡ false
refused x fails test =
    is_false (some 256 (counts_as x))
    (not_T (some 256 (counts_as x)) (λ t.
    let r = some_at 256 (counts_as x) t in
    true≢false (sym (test r.0 r.1 (is_true (counts_as x r.0) r.2)) ∙ fails)))

-- The product of a fraction that counts as a k below 256 equals its whole part.
passes : (x : Float) → T (fits binary64 x) → (k : ℕ) → k < 256 → counts_as x k ≡ true
    → let p = mul binary64 x (fin false 1 (pos 8)) in
    eq p (of_int binary64 (pos (to_unsigned 8 p))) ≡ true
passes x t k h c =
    let p = mul binary64 x (fin false 1 (pos 8)) in
    let q = product-holds x k t h c in
    subst (λ (j : ℕ). eq p (of_int binary64 (pos j)) ≡ true) (sym (whole-part p k h (equal-says p k h q))) q

-- What a fraction counts is the whole part of its product, where the product equals it.
pub whole-counts-as : (x : Float) → T (fits binary64 x) → to_unsigned 8 (mul binary64 x (fin false 1 (pos 8))) < 256
    → let p = mul binary64 x (fin false 1 (pos 8)) in
    CountOf x (then_some (eq p (of_int binary64 (pos (to_unsigned 8 p)))) (to_unsigned 8 p))
whole-counts-as x t h = go (eq p (of_int binary64 (pos k))) refl
  where
    p : Float
    p = mul binary64 x (fin false 1 (pos 8))

    k : ℕ
    k = to_unsigned 8 p

    go : (b : Bool) → eq p (of_int binary64 (pos k)) ≡ b → CountOf x (then_some b k)
    go true e = accepted x k h (product-says x k t h e)
    go false e = refused x e (λ j l c. passes x t j l c)
