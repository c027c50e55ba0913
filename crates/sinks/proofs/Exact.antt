-- The machine's product of a fraction by 256 equals a whole number below 256 exactly where the fraction counts as that number. The product of what is
-- not whole is exact; that of a whole number other than 0 is 256 in size at least.
use Rattle.std.proofs.Common.{◌≡◌, ℕ, zero, suc, ◌+◌, ◌-◌, ◌*◌, ◌%◌, ◌^◌, ◌<◌, ◌≤◌, Bool, true, false, cond, not, ◌&&◌, ◌||◌, T, eqb, ltb, leb, ℤ, pos, negsuc, sym, refl, ap, ◌∙◌, subst, le_trans, le_of_eq, lt_of_lt_of_le, mul-le-mul_right, mul_assoc, mul-pos, lt_of_not-le, zero-mul, mul-one, mul_right_comm, not-le_of_lt, arith, lit<, lit≤, eqb→eq, ltb→lt, leb→le, pow_pos, pow_mono, pow-add, shl_lt}
use mathlib.Core.Bool.{beq, false≢true}
use native.Mathlib.Nat.{eq_of_mul-eq-mul_right}
use lib.Pow.{pow-lt}
use lib.Ieee.{Float, nan, inf, fin, Format, binary64, prec, emax, low, up, down, round, units, odd, mul, of_int, eq, le, fits}
use lib.Ieee.Exact.{HasValue, round_exact}
use lib.Ieee.Back.{round_whole}
use lib.Ieee.Order.{round_mono}
use lib.Ieee.Positive.{positive, above, above_of_le, positive_of_value, values_of_le}
use lib.Ieee.Fits.{and_l, and_r, and_i, eq→eqb, down_pos}
use lib.Ieee.Bits.{is_true}
use Rattle.net.specs.Weights.{counts_as}
use Rattle.sinks.proofs.Whole.{holds, IsWhole, sign-says, sign-holds, equal-says, equal-holds}

-- ---- what counts

-- What counts as k is k / 256, and is not negative unless it is 0.
counts-says : (s : Bool) (m : ℕ) (e : ℤ) (k : ℕ) → counts_as (fin s m e) k ≡ true → (m * up e * 256 ≡ k * down e) × (s ≡ true → k ≡ 0)
unfolding counts_as
counts-says s m e k q = (
  eqb→eq (m * up e * 256) (k * down e) (and_l (eqb (m * up e * 256) (k * down e)) (not s || eqb k 0) (holds q)),
  sign-says s k (and_r (eqb (m * up e * 256) (k * down e)) (not s || eqb k 0) (holds q)),
)

-- What is k / 256, and not negative unless it is 0, counts as k.
counts-holds : (s : Bool) (m : ℕ) (e : ℤ) (k : ℕ) → (m * up e * 256 ≡ k * down e) × (s ≡ true → k ≡ 0) → counts_as (fin s m e) k ≡ true
unfolding counts_as
counts-holds s m e k w =
    is_true (eqb (m * up e * 256) (k * down e) && (not s || eqb k 0)) (and_i (eqb (m * up e * 256) (k * down e)) (not s || eqb k 0) (eq→eqb w.0) (sign-holds s k w.1))

-- A number counts as one whole number at most.
pub counts-once : (x : Float) (j k : ℕ) → counts_as x j ≡ true → counts_as x k ≡ true → j ≡ k
unfolding counts_as
counts-once nan j k p q = absurd (false≢true p)
counts-once (inf s) j k p q = absurd (false≢true p)
counts-once (fin s m e) j k p q = eq_of_mul-eq-mul_right (down e) (down_pos e) j k (sym (counts-says s m e j p).0 ∙ (counts-says s m e k q).0)

-- ---- a float of value a / c that is a whole number

-- A float of value a / c that is k: a is k times c, and the sign is the value's.
value-says : (x : Float) (s : Bool) (a c k : ℕ) → HasValue x s a c → IsWhole x k → (a ≡ k * c) × (s ≡ true → k ≡ 0)
value-says nan s a c k v w = elim v [ ]
value-says (inf t) s a c k v w = elim v [ ]
value-says (fin t m e) s a c k v w = (
  eq_of_mul-eq-mul_right (down e) (down_pos e) a (k * c) (sym v.1 ∙ ap (λ (z : ℕ). z * c) w.0 ∙ mul_right_comm k (down e) c),
  λ u. w.1 (v.0 ∙ u),
)

-- A float of value a / c is k where a is k times c, and what is negative is 0.
value-holds : (x : Float) (s : Bool) (a c k : ℕ) → 0 < c → HasValue x s a c → (a ≡ k * c) × (s ≡ true → k ≡ 0) → IsWhole x k
value-holds nan s a c k h v w = elim v [ ]
value-holds (inf t) s a c k h v w = elim v [ ]
value-holds (fin t m e) s a c k h v w = (
  eq_of_mul-eq-mul_right c h (m * up e) (k * down e) (v.1 ∙ ap (λ (z : ℕ). z * down e) w.0 ∙ mul_right_comm k c (down e)),
  λ u. w.1 (sym v.0 ∙ u),
)

-- ---- the product of what is not whole, or is 0

module _ (s : Bool) (m a : ℕ) (t : T (fits binary64 (fin s (suc m) (negsuc a)))) where
  -- The significand has 53 digits at most, and the exponent is within the format's.
  parts : (suc m < 2 ^ 53) × (2 ^ suc a ≤ 2 ^ 1074)
  unfolding fits
  parts =
      let A = eqb (suc m % 2) 1 in
      let B = ltb (suc m) (2 ^ 53) in
      let C = leb (2 ^ suc a) (2 ^ 1074) in
      let u : T (A && B && C) = and_l (A && B && C) (ltb (suc m * 1) (2 ^ 1024 * 2 ^ suc a)) t in
      (ltb→lt (suc m) (2 ^ 53) (and_r A B (and_l (A && B) C u)), leb→le (2 ^ suc a) (2 ^ 1074) (and_r (A && B) C u))

  -- The exponent is -1074 at least.
  reach : suc a ≤ 1074
  reach =
      let l : suc a < 1075 = lt_of_not-le (λ g. not-le_of_lt (pow-lt {i = 1074} {j = 1075} (lit< tt)) (le_trans (pow_mono g) parts.1)) in
      omega arith

  -- The product in units of the format's smallest value is the significand times a power of two.
  in-units : suc m * 1 * 256 * 2 ^ 1074 ≡ suc m * 2 ^ (1082 - suc a) * (2 ^ suc a * 1)
  in-units =
      let r = reach in
      let j : 1082 - suc a + suc a ≡ 1082 = omega arith in
      let p : 2 ^ (1082 - suc a) * 2 ^ suc a ≡ 2 ^ 1082 = sym (pow-add 2 (1082 - suc a) (suc a)) ∙ ap (λ (z : ℕ). 2 ^ z) j in
      ap (λ (z : ℕ). z * 256 * 2 ^ 1074) (mul-one (suc m))
      ∙ mul_assoc (suc m) 256 (2 ^ 1074)
      ∙ ap (λ (z : ℕ). suc m * z) (sym p)
      ∙ sym (mul_assoc (suc m) (2 ^ (1082 - suc a)) (2 ^ suc a))
      ∙ ap (λ (z : ℕ). suc m * 2 ^ (1082 - suc a) * z) (sym (mul-one (2 ^ suc a)))

  -- Those units are within the format's range.
  within : suc m * 2 ^ (1082 - suc a) < 2 ^ 2098
  within =
      let j : 53 + (1082 - suc a) ≤ 2098 = omega arith in
      lt_of_lt_of_le (shl_lt 53 (1082 - suc a) parts.0) (pow_mono j)

  -- The product is exact.
  exact-small : HasValue (round binary64 s (suc m * 1 * 256) (2 ^ suc a * 1)) s (suc m * 1 * 256) (2 ^ suc a * 1)
  exact-small = round_exact binary64 s (suc m * 1 * 256) (2 ^ suc a * 1) (suc m) (1082 - suc a) (mul-pos (pow_pos (suc a)) (lit< tt)) parts.0 within in-units

-- The product of a zero is exact.
exact-zero : (s : Bool) (e : ℤ) → HasValue (round binary64 s (0 * up e * 256) (down e * 1)) s (0 * up e * 256) (down e * 1)
exact-zero s e = round_exact binary64 s (0 * up e * 256) (down e * 1) 0 0 (mul-pos (down_pos e) (lit< tt)) (lit< tt) (lit< tt)
    (ap (λ (z : ℕ). z * 256 * 2 ^ 1074) (zero-mul (up e)) ∙ sym (zero-mul (down e * 1)))

module _ (s : Bool) (m : ℕ) (e : ℤ) (k : ℕ) (h : k < 256) (v : HasValue (round binary64 s (m * up e * 256) (down e * 1)) s (m * up e * 256) (down e * 1)) where
  -- An exact product that equals k says that the fraction counts as k.
  exact-says : eq (round binary64 s (m * up e * 256) (down e * 1)) (of_int binary64 (pos k)) ≡ true → counts_as (fin s m e) k ≡ true
  exact-says q =
      let x = round binary64 s (m * up e * 256) (down e * 1) in
      let r = value-says x s (m * up e * 256) (down e * 1) k v (equal-says x k h q) in
      counts-holds s m e k (r.0 ∙ ap (λ (z : ℕ). k * z) (mul-one (down e)), r.1)

  -- An exact product of a fraction that counts as k equals k.
  exact-holds : counts_as (fin s m e) k ≡ true → eq (round binary64 s (m * up e * 256) (down e * 1)) (of_int binary64 (pos k)) ≡ true
  exact-holds q =
      let x = round binary64 s (m * up e * 256) (down e * 1) in
      let w = counts-says s m e k q in
      equal-holds x k h
      (value-holds x s (m * up e * 256) (down e * 1) k (mul-pos (down_pos e) (lit< tt)) v (w.0 ∙ ap (λ (z : ℕ). k * z) (sym (mul-one (down e))), w.1))

-- ---- the product of a whole number other than 0

-- A float with another sign.
signed : Bool → Float → Float
signed s nan = nan
signed s (inf t) = inf s
signed s (fin t m e) = fin s m e

-- `odd` puts the sign beside the rest.
odd-signed : (d : ℕ) (s : Bool) (q k l : ℕ) → odd d s q k l ≡ signed s (odd d false q k l)
unfolding odd signed
odd-signed d s zero k l = refl
odd-signed d s (suc q) k l = refl

-- `units` puts the sign beside the rest.
units-signed : (f : Format) (s : Bool) (q k : ℕ) → units f s q k ≡ signed s (units f false q k)
unfolding units signed
units-signed f s q k = go (ltb (q * 2 ^ k) (2 ^ (low f + suc (emax f))))
  where
    go : (b : Bool) → cond b (odd (suc (prec f)) s q k (low f)) (inf s) ≡ signed s (cond b (odd (suc (prec f)) false q k (low f)) (inf false))
    go true = odd-signed (suc (prec f)) s q k (low f)
    go false = refl

-- Rounding puts the sign beside the rest.
round-signed : (f : Format) (s : Bool) (num den : ℕ) → round f s num den ≡ signed s (round f false num den)
unfolding round
round-signed f s num den = units-signed f s _ _

-- The product's size is 256 at least.
big : (m a : ℕ) → 256 ≤ suc m * 2 ^ a * 256
big m a = mul-le-mul_right {m = 1} {n = suc m * 2 ^ a} 256 (mul-pos {m = suc m} {n = 2 ^ a} (omega arith) (pow_pos a))

-- What is above zero, and has the size k, is k.
unsigned : (x : Float) (s : Bool) (k : ℕ) → T (above x) → IsWhole (signed s x) k → T (positive x) × HasValue x false k 1
unfolding signed
unsigned nan s k t w = elim t [ ]
unsigned (inf t') s k t w = elim w [ ]
unsigned (fin true n d) s k t w = absurd t
unsigned (fin false n d) s k t w = (t, (refl, mul-one (n * up d) ∙ w.0))

-- What is at least 256 in size is no whole number below 256.
at_least : (x : Float) (s : Bool) (k : ℕ) → T (le (round binary64 false 256 1) x) → IsWhole (signed s x) k → 256 ≤ k
at_least x s k l w =
    let y = round binary64 false 256 1 in
    let v = round_whole binary64 false 256 (lit≤ tt) in
    let p = positive_of_value y 256 1 v (lit< tt) in
    let u = unsigned x s k (above_of_le y x p l) w in
    omega (arith, values_of_le y x 256 1 k 1 p u.0 v u.1 l)

-- The product equals no whole number below 256.
big-not : (s : Bool) (m a k : ℕ) → k < 256 → eq (round binary64 s (suc m * 2 ^ a * 256) (1 * 1)) (of_int binary64 (pos k)) ≡ true → ⊥
big-not s m a k h q =
    let x = round binary64 false (suc m * 2 ^ a * 256) (1 * 1) in
    let l = at_least x s k
    (round_mono binary64 256 1 (suc m * 2 ^ a * 256) (1 * 1) (lit< tt) (lit< tt) (le_trans (big m a) (le_of_eq (sym (mul-one (suc m * 2 ^ a * 256))))))
    (equal-says (signed s x) k h (subst (λ (y : Float). eq y (of_int binary64 (pos k)) ≡ true) (round-signed binary64 s (suc m * 2 ^ a * 256) (1 * 1)) q)) in
    omega arith

-- ---- the product

-- The product by 256 is a rounded fraction with the sign of its first factor.
product : (s : Bool) (m : ℕ) (e : ℤ) → mul binary64 (fin s m e) (fin false 1 (pos 8)) ≡ round binary64 s (m * up e * 256) (down e * 1)
unfolding mul
product s m e = ap (λ (b : Bool). round binary64 b (m * up e * 256) (down e * 1)) (go s)
  where
    go : (b : Bool) → not (beq b false) ≡ b
    go true = refl
    go false = refl

-- The machine's product that equals k says that the fraction counts as k.
pub product-says : (x : Float) (k : ℕ) → T (fits binary64 x) → k < 256 → eq (mul binary64 x (fin false 1 (pos 8))) (of_int binary64 (pos k)) ≡ true → counts_as x k ≡ true
unfolding mul
product-says nan k t h q = absurd (equal-says nan k h q)
product-says (inf s) k t h q = absurd (equal-says (inf _) k h q)
product-says (fin s zero e) k t h q = exact-says s zero e k h (exact-zero s e) (rw (product s zero e) at q)
product-says (fin s (suc m) (pos a)) k t h q = absurd (big-not s m a k h (rw (product s (suc m) (pos a)) at q))
product-says (fin s (suc m) (negsuc a)) k t h q = exact-says s (suc m) (negsuc a) k h (exact-small s m a t) (rw (product s (suc m) (negsuc a)) at q)

-- The machine's product of a fraction that counts as k equals k.
pub product-holds : (x : Float) (k : ℕ) → T (fits binary64 x) → k < 256 → counts_as x k ≡ true → eq (mul binary64 x (fin false 1 (pos 8))) (of_int binary64 (pos k)) ≡ true
unfolding counts_as
product-holds nan k t h q = absurd (false≢true q)
product-holds (inf s) k t h q = absurd (false≢true q)
product-holds (fin s zero e) k t h q = rw (product s zero e) (exact-holds s zero e k h (exact-zero s e) q)
product-holds (fin s (suc m) (pos a)) k t h q = let b = big m a in let e = (counts-says s (suc m) (pos a) k q).0 ∙ mul-one k in absurd (omega arith)
product-holds (fin s (suc m) (negsuc a)) k t h q = rw (product s (suc m) (negsuc a)) (exact-holds s (suc m) (negsuc a) k h (exact-small s m a t) q)
