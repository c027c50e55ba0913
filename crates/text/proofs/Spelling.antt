-- Laws of the spelling of a number: digit by digit, and how long it is.
use mathlib.Core.Bool.{Bool, true, false}
use mathlib.Core.Path.{◌≡◌, refl}
use mathlib.Core.List.{[], ◌∷◌, ◌++◌}
use Prim.Native.Nat.{ℕ, zero, suc, ◌+◌, ◌*◌, ◌/◌, ◌%◌, ◌^◌, ◌≤◌, ◌<◌}
use native.Mathlib.Omega.{arith}
use lib.Dec.{ltb}
use lib.ListN.{length, length-append}
use borrow.Author.Tests.{lt-ltb, le-ltb, ltb-true, ltb-false}
use Rattle.text.specs.Spelling.{digits, spelling}

-- a larger bound changes nothing
same_digits : (j k n : ℕ) → n ≤ j → n ≤ k → digits j n ≡ digits k n
unfolding digits
same_digits zero zero n h l = refl
same_digits zero (suc k) n h l = rw (lt-ltb n 10 (omega arith))
same_digits (suc j) zero n h l = rw (lt-ltb n 10 (omega arith))
same_digits (suc j) (suc k) n h l = rw (same_digits j k (n / 10) (omega arith) (omega arith))

pub spelling-one : (n : ℕ) → n < 10 → spelling n ≡ (48 + n) ∷ []
unfolding spelling digits
spelling-one zero h = refl
spelling-one (suc n) h = rw (lt-ltb (suc n) 10 h)

pub spelling-more : (n : ℕ) → 10 ≤ n → spelling n ≡ spelling (n / 10) ++ (48 + n % 10) ∷ []
unfolding spelling digits
spelling-more zero h = absurd (omega arith)
spelling-more (suc n) h = rw (le-ltb (suc n) 10 h, same_digits n (suc n / 10) (suc n / 10) (omega arith) (omega arith))

-- the same of one digit, with the last digit as in the code
pub spelling-small : (n : ℕ) → n < 10 → spelling n ≡ (48 + n % 10) ∷ []
spelling-small n h =
    let e : n % 10 ≡ n = omega arith in
    rw e (spelling-one n h)

-- one digit more behind a number that is not 0
pub spelling-digit : (v d : ℕ) → 0 < v → d < 10 → spelling (10 * v + d) ≡ spelling v ++ (48 + d) ∷ []
spelling-digit v d h l =
    let q : (10 * v + d) / 10 ≡ v = omega arith in
    let r : (10 * v + d) % 10 ≡ d = omega arith in
    rw q at (rw r at (spelling-more (10 * v + d) (omega arith)))

-- what holds of one digit, and of more if of all but the last, holds of every number
pub by_digits : (P : ℕ → Type 0) → ((n : ℕ) → n < 10 → P n) → ((n : ℕ) → 10 ≤ n → P (n / 10) → P n) → (n : ℕ) → P n
by_digits P one more n = go n n (omega arith)
  where
    pick : (n : ℕ) (small : Bool) → ltb n 10 ≡ small → P (n / 10) → P n
    pick n true e p = one n (ltb-true n 10 e)
    pick n false e p = more n (ltb-false n 10 e) p

    go : (k n : ℕ) → n ≤ k → P n
    go zero n h = one n (omega arith)
    go (suc k) n h = pick n (ltb n 10) refl (go k (n / 10) (omega arith))

-- a number below 10 ^ k has at most k digits
pub spelling-long : (k n : ℕ) → n < 10 ^ suc k → length (spelling n) ≤ suc k
spelling-long zero n h = rw (spelling-one n (omega arith)) (omega arith)
spelling-long (suc k) n h = go (ltb n 10) refl (spelling-long k (n / 10))
  where
    go : (small : Bool) → ltb n 10 ≡ small → (n / 10 < 10 ^ suc k → length (spelling (n / 10)) ≤ suc k) → length (spelling n) ≤ suc (suc k)
    go true e p = rw (spelling-one n (ltb-true n 10 e)) (omega arith)
    go false e p = rw (spelling-more n (ltb-false n 10 e), length-append) (omega (arith, p (omega arith)))
