-- A loop over a run of bytes that compares each with the one before it, the first with a least value: where it gets through, the bytes fall
-- nowhere, and none is below the least value or above the last.
use mathlib.Core.Path.{◌≡◌, refl}
use mathlib.Core.Bool.{Bool, true, false, not, ◌&&◌, and-false}
use Prim.Native.Nat.{ℕ, zero, suc, ◌+◌, ◌-◌, ◌≤◌, ◌<◌}
use native.Mathlib.Numerals.{add-one}
use native.Mathlib.Decide.{dec_le}
use native.Mathlib.Omega.{arith}
use borrow.Author.Tests.{leb-true, leb-false, not-true, not-false, le-leb, lt-leb}
use lib.Dec.{leb, le→leb}
use Rattle.lattice.specs.Lists.{every}
use Rattle.lattice.proofs.ListLaws.{is_true, T_and, at_every}
use Rattle.lattice.proofs.Every.{every-fails}
use Rattle.net.specs.Questions.{in_range}
use Rattle.net.proofs.Records.{never-falls}

module _ (f : ℕ → ℕ) (least : ℕ) where
  -- What number k is compared with: the one before it, the first with the least value.
  abbrev pub compared : ℕ → ℕ
  compared zero = least
  compared (suc k) = f k

  -- Before k nothing falls, and `before` is what number k is compared with.
  pub record Climbed (k before : ℕ) : Type 0 where
    pub last : before ≡ compared k
    pub rises : (j : ℕ) → j < k → compared j ≤ f j

module _ {f : ℕ → ℕ} {least : ℕ} where
  pub climbs-none : Climbed f least 0 least
  climbs-none = record { last = refl; rises = λ j h. absurd (omega arith) }

  module _ {k before : ℕ} (i : Climbed f least k before) where
    -- v is number k, and does not fall
    pub climbs-on : {v : ℕ} → v ≡ f k → not (leb before v) ≡ false → Climbed f least (k + 1) v
    climbs-on {v} e t = rw (add-one k) record { last = e; rises = λ j l. go j l (dec_le (suc j) k) }
      where
        go : (j : ℕ) → j < suc k → Dec (j < k) → compared f least j ≤ f j
        go j l (yes m) = i.rises j m
        go j l (no m) = let d : j ≡ k = omega arith in rw d (omega (arith, i.last, e, leb-true before v (not-false _ t)))

-- What such a loop tests, of n numbers.
module _ (f : ℕ → ℕ) (n least most : ℕ) where
  abbrev pub in_bounds : Bool
  in_bounds = every n (λ j. in_range least most (f j))

  abbrev pub in_order : Bool
  in_order = every (n - 1) (λ j. leb (f j) (f (j + 1)))

  falls : (k : ℕ) → k < n → f k < compared f least k → false ≡ in_bounds && in_order
  falls zero h l = rw (every-fails n (λ j. in_range least most (f j)) 0 h (rw (lt-leb least (f 0) l)))
  falls (suc k) h l =
      rw (every-fails (n - 1) (λ j. leb (f j) (f (j + 1))) k (omega arith) (rw (add-one k) (lt-leb (f k) (f (suc k)) l)), and-false in_bounds)

  -- v is number k, and falls
  pub falls-here : {k before v : ℕ} → Climbed f least k before → k < n → v ≡ f k → not (leb before v) ≡ true → false ≡ in_bounds && in_order
  falls-here {k} {before} {v} i h e t = falls k h (omega (arith, i.last, e, leb-false before v (not-true _ t)))

  pub climbs-all : {before : ℕ} → Climbed f least n before → least ≤ most → leb before most ≡ in_bounds && in_order
  climbs-all {before} i o = go (dec_le before most)
    where
      climbs : (j k : ℕ) → j ≤ k → k < suc n → compared f least j ≤ compared f least k
      climbs = never-falls (compared f least) (suc n) (λ k h. i.rises k (omega arith))

      above : (m : ℕ) → m ≡ n → before ≡ compared f least m → most < before → in_bounds ≡ false
      above zero e b l = absurd (omega (arith, o, b, l))
      above (suc k) e b l = every-fails n (λ j. in_range least most (f j)) k (omega arith) (rw (lt-leb (f k) most (omega (arith, b, l)), and-false (leb least (f k))))

      go : Dec (before ≤ most) → leb before most ≡ in_bounds && in_order
      go (yes h) =
          let w = at_every n (λ j. in_range least most (f j)) (λ j l. T_and (leb least (f j)) (leb (f j) most) (le→leb least (f j) (climbs 0 (suc j) (omega arith) (omega arith))) (le→leb (f j) most (omega (arith, h, i.last, climbs (suc j) n (omega arith) (omega arith))))) in
          let r = at_every (n - 1) (λ j. leb (f j) (f (j + 1))) (λ j l. rw (add-one j) (le→leb (f j) (f (suc j)) (climbs (suc j) (suc (suc j)) (omega arith) (omega arith)))) in
          rw (le-leb before most h, is_true in_bounds w, is_true in_order r)
      go (no h) = rw (lt-leb before most (omega arith), above n refl i.last (omega arith))
