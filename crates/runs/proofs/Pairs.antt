-- A test of each number with the one before it, the first with itself, is a test of each pair that follow one another.
use mathlib.Core.Path.{◌≡◌, refl}
use Prim.Native.Nat.{ℕ, zero, suc, ◌+◌, ◌-◌}
use native.Mathlib.Numerals.{add-one}
use native.Mathlib.Omega.{arith}
use borrow.Author.Tests.{le-leb}
use lib.Dec.{leb}
use Rattle.lattice.specs.Lists.{every}

pub pairs-before : (f : ℕ → ℕ) (n : ℕ) → every n (λ k. leb (f (k - 1)) (f k)) ≡ every (n - 1) (λ k. leb (f k) (f (k + 1)))
unfolding every
pairs-before f zero = refl
pairs-before f (suc zero) = rw (le-leb (f 0) (f 0) (omega arith)) refl
pairs-before f (suc (suc n)) =
    let e : suc (suc n) - 1 ≡ suc n = omega arith in
    let d : suc n - 1 ≡ n = omega arith in
    rw (pairs-before f (suc n), e, d, add-one n) refl
