-- A product of numbers that are at least 1, place by place: what a loop that multiplies them, and stops once it is above 65,536, knows.
use mathlib.Core.Path.{◌≡◌, refl, sym}
use mathlib.Core.Logic.{◌⊎◌, inl, inr}
use mathlib.Core.Bool.{false}
use Prim.Native.Nat.{ℕ, zero, suc, ◌+◌, ◌*◌, ◌≤◌, ◌<◌}
use native.Mathlib.Nat.{eq-or-lt_of_le, le_of_suc-le-suc, le_refl}
use native.Mathlib.Numerals.{add-one}
use native.Mathlib.Omega.{arith}
use borrow.Author.Tests.{lt-leb}
use lib.Dec.{leb}
use Rattle.lattice.specs.Lists.{product}

-- a product of some is at most that of all
product_le : (f : ℕ → ℕ) (p n : ℕ) → p ≤ n → product p (λ q. suc (f q)) ≤ product n (λ q. suc (f q))
unfolding product
product_le f p zero h = let e : p ≡ 0 = omega arith in rw e (le_refl _)
product_le f p (suc n) h = go (eq-or-lt_of_le h) (λ l. product_le f p n l)
  where
    go : (p ≡ suc n) ⊎ (p < suc n) → (p ≤ n → product p (λ q. suc (f q)) ≤ product n (λ q. suc (f q))) → product p (λ q. suc (f q)) ≤ product (suc n) (λ q. suc (f q))
    go (inl e) rest = rw e (le_refl _)
    go (inr l) rest = omega (arith, rest (le_of_suc-le-suc l))

-- the first p of n numbers, each one more than f, are multiplied
pub record Counting (f : ℕ → ℕ) (n room p : ℕ) : Type 0 where
  pub up_to : p ≤ n
  pub counted : room ≡ product p (λ q. suc (f q))
  pub fits : room ≤ 65536

pub counting-start : (f : ℕ → ℕ) (n : ℕ) → Counting f n 1 0
unfolding product
counting-start f n = record { up_to = omega arith; counted = refl; fits = omega arith }

module _ {f : ℕ → ℕ} {n room p : ℕ} (i : Counting f n room p) where
  -- with the number k of the next place
  module _ {k : ℕ} where
    next : k ≡ suc (f p) → room * k ≡ product (p + 1) (λ q. suc (f q))
    unfolding product
    next e = rw (add-one p, e, i.counted) (omega arith)

    pub counting-step : p < n → k ≡ suc (f p) → room * k ≤ 65536 → Counting f n (room * k) (p + 1)
    counting-step h e l = record { up_to = omega arith; counted = next e; fits = l }

    pub counting-over : p < n → k ≡ suc (f p) → 65536 < room * k → false ≡ leb (product n (λ q. suc (f q))) 65536
    counting-over h e l =
        let above : 65536 < product n (λ q. suc (f q)) = omega (arith, next e, product_le f (p + 1) n (omega arith)) in
        sym (lt-leb _ _ above)
