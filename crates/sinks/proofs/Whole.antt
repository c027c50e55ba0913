-- A float that is a whole number: when it equals that number as a float, the tests that it passes below 256, and its whole part.
use Rattle.std.proofs.Common.{◌≡◌, ℕ, ◌*◌, ◌/◌, ◌<◌, Bool, true, false, not, ◌&&◌, ◌||◌, T, eqb, pos, sym, refl, ap, ◌∙◌, subst, true≢false, le_trans, le_of_lt, zero-mul, mul-one, mul_right_comm, mul-div_cancel, arith, lit≤, eqb→eq}
use mathlib.Core.Bool.{beq, false≢true}
use native.Mathlib.Nat.{eq_of_mul-eq-mul_right}
use lib.Ieee.{Float, nan, inf, fin, binary64, up, down, of_int, to_unsigned, eq}
use lib.Ieee.Exact.{HasValue}
use lib.Ieee.Back.{round_whole}
use lib.Ieee.Fits.{and_l, and_r, and_i, eq→eqb, down_pos}
use lib.Ieee.Bits.{is_true}

-- A test that is true holds.
pub holds : {b : Bool} → b ≡ true → T b
holds e = subst T (sym e) tt

-- A number whose multiple is 0 is 0.
zero_of : (k p : ℕ) → 0 < p → k * p ≡ 0 → k ≡ 0
zero_of k p h e = eq_of_mul-eq-mul_right p h k 0 (e ∙ sym (zero-mul p))

-- A finite float is the whole number k. Minus zero is 0.
abbrev pub IsWhole : Float → ℕ → Type 0
IsWhole nan k = ⊥
IsWhole (inf s) k = ⊥
IsWhole (fin s m e) k = (m * up e ≡ k * down e) × (s ≡ true → k ≡ 0)

-- The test of the sign says that what is negative is 0.
pub sign-says : (s : Bool) (a : ℕ) → T (not s || eqb a 0) → s ≡ true → a ≡ 0
sign-says true a t e = eqb→eq a 0 t
sign-says false a t e = absurd (false≢true e)

-- The test of the sign holds where what is negative is 0.
pub sign-holds : (s : Bool) (a : ℕ) → (s ≡ true → a ≡ 0) → T (not s || eqb a 0)
sign-holds true a z = eq→eqb (z refl)
sign-holds false a z = tt

-- A sign equals plus where it is not minus.
beq-false : (s : Bool) → beq s false ≡ not s
beq-false true = refl
beq-false false = refl

-- A whole number below 256 is a float exactly.
whole-value : (k : ℕ) → k < 256 → HasValue (of_int binary64 (pos k)) false k 1
unfolding of_int
whole-value k h = round_whole binary64 false k (le_trans (le_of_lt h) (lit≤ tt))

-- A float that equals one of value k is k.
level-says : (x y : Float) (k : ℕ) → HasValue y false k 1 → eq x y ≡ true → IsWhole x k
unfolding eq
level-says (inf s) nan k v q = elim v [ ]
level-says (inf s) (inf t) k v q = elim v [ ]
level-says (fin s m e) nan k v q = elim v [ ]
level-says (fin s m e) (inf t) k v q = elim v [ ]
level-says nan y k v q = false≢true q
level-says (inf s) (fin t n d) k v q = false≢true q
level-says (fin s m e) (fin true n d) k v q = absurd (true≢false v.0)
level-says (fin s m e) (fin false n d) k v q =
    let A = m * up e * down d in
    let B = n * up d * down e in
    let same : A ≡ B = eqb→eq A B (and_l (eqb A B) (beq s false || eqb A 0) (holds q)) in
    let value : m * up e ≡ k * down e =
    eq_of_mul-eq-mul_right (down d) (down_pos d) (m * up e) (k * down e)
    (same ∙ ap (λ (z : ℕ). z * down e) (sym (mul-one (n * up d)) ∙ v.1) ∙ mul_right_comm k (down d) (down e)) in (
      value,
      λ t. zero_of k (down e) (down_pos e)
          (sym value ∙ zero_of (m * up e) (down d) (down_pos d)
          (sign-says s A (subst (λ (b : Bool). T (b || eqb A 0)) (beq-false s) (and_r (eqb A B) (beq s false || eqb A 0) (holds q))) t)),
    )

-- A float that is k equals one of value k.
level_holds : (x y : Float) (k : ℕ) → HasValue y false k 1 → IsWhole x k → eq x y ≡ true
unfolding eq
level_holds nan y k v w = elim w [ ]
level_holds (inf s) y k v w = elim w [ ]
level_holds (fin s m e) nan k v w = elim v [ ]
level_holds (fin s m e) (inf t) k v w = elim v [ ]
level_holds (fin s m e) (fin true n d) k v w = absurd (true≢false v.0)
level_holds (fin s m e) (fin false n d) k v w =
    let A = m * up e * down d in
    let B = n * up d * down e in
    let value : A ≡ k * down e * down d = ap (λ (z : ℕ). z * down d) w.0 in
    let same : A ≡ B = value ∙ mul_right_comm k (down e) (down d) ∙ ap (λ (z : ℕ). z * down e) (sym v.1 ∙ mul-one (n * up d)) in
    let none : s ≡ true → A ≡ 0 = λ t. value ∙ ap (λ (z : ℕ). z * down e * down d) (w.1 t) ∙ ap (λ (z : ℕ). z * down d) (zero-mul (down e)) ∙ zero-mul (down d) in
    is_true (eqb A B && (beq s false || eqb A 0))
    (and_i (eqb A B) (beq s false || eqb A 0) (eq→eqb same) (subst (λ (b : Bool). T (b || eqb A 0)) (sym (beq-false s)) (sign-holds s A none)))

-- A float that equals the float of k is k.
pub equal-says : (x : Float) (k : ℕ) → k < 256 → eq x (of_int binary64 (pos k)) ≡ true → IsWhole x k
equal-says x k h q = level-says x (of_int binary64 (pos k)) k (whole-value k h) q

-- A float that is k equals the float of k.
pub equal-holds : (x : Float) (k : ℕ) → k < 256 → IsWhole x k → eq x (of_int binary64 (pos k)) ≡ true
equal-holds x k h w = level_holds x (of_int binary64 (pos k)) k (whole-value k h) w

-- A whole number k below 256 is its own whole part.
pub whole-part : (x : Float) (k : ℕ) → k < 256 → IsWhole x k → to_unsigned 8 x ≡ k
unfolding to_unsigned
whole-part nan k h w = elim w [ ]
whole-part (inf s) k h w = elim w [ ]
whole-part (fin true m e) k h w = sym (w.1 refl)
whole-part (fin false m e) k h w =
    let d : m * up e / down e ≡ k = ap (λ (a : ℕ). a / down e) w.0 ∙ mul-div_cancel k (down_pos e) in
    omega arith
