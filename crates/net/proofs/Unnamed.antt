-- Question 5 asks that all unnamed bytes are zero, and nothing else.
use mathlib.Core.Path.{◌≡◌}
use mathlib.Core.Logic.{◌↔◌}
use mathlib.Core.Bool.{Bool, ◌&&◌, ◌||◌}
use mathlib.Core.List.{List}
use Prim.Native.Nat.{ℕ, ◌+◌, ◌≤◌, ◌<◌}
use native.Mathlib.Nat.{le_dest, add_assoc}
use native.Mathlib.Decide.{ℕ_discrete}
use native.Mathlib.Omega.{arith}
use borrow.Author.Tests.{ne_eqb, eq-eqb}
use lib.Dec.{T, eqb, eqb→eq}
use Rattle.lattice.specs.Lists.{every}
use Rattle.lattice.proofs.ListLaws.{and_T, T_and, eq-T, every-at, at_every}
use Rattle.net.specs.declared.Counts.{Counts}
use Rattle.net.specs.Job.{byte, weight_records, width_at, size_at, stage_at, repeater_at, weight_at, weight_form}
use Rattle.net.specs.Questions.{zeros, weight_zeros, question5}

-- Bytes l to h, h left out, of the record at r are zero.
abbrev ZeroBytes : List ℕ → ℕ → ℕ → ℕ → Type 0
ZeroBytes b r l h = (j : ℕ) → l ≤ j → j < h → byte b (r + j) ≡ 0

-- All bytes that the format does not name are zero; a width has one before its figures and some behind them, a segment has none, and a weight record
-- has one in each form and others by its form.
pub record UnnamedZero (c : Counts) (b : List ℕ) : Type 0 where
  pub widths_before : (k : ℕ) → k < c.widths → ZeroBytes b (width_at k) 3 4
  pub widths_behind : (k : ℕ) → k < c.widths → ZeroBytes b (width_at k) 12 16
  pub sizes : (k : ℕ) → k < c.sizes → ZeroBytes b (size_at c k) 2 4
  pub stages : (s : ℕ) → s < c.stages → ZeroBytes b (stage_at c s) 4 16
  pub repeaters : (r : ℕ) → r < c.repeaters → ZeroBytes b (repeater_at c r) 5 16
  pub weights : (w : ℕ) → w < weight_records b → ZeroBytes b (weight_at c w) 3 4
  pub wholes : (w : ℕ) → w < weight_records b → (weight_form c b w ≡ 1 → ⊥) → ZeroBytes b (weight_at c w) 4 8
  pub fractions : (w : ℕ) → w < weight_records b → (weight_form c b w ≡ 2 → ⊥) → ZeroBytes b (weight_at c w) 8 16

module _ (c : Counts) (b : List ℕ) where
  bytes-zero : (r l n : ℕ) → ZeroBytes b r l (l + n) → T (zeros c b (r + l) n)
  unfolding zeros
  bytes-zero r l n f = at_every n _ (λ i h. eq-T (byte b (r + l + i)) 0 (rw (add_assoc r l i) (f (l + i) (omega arith) (omega arith))))

  zero-bytes : (r l n : ℕ) → T (zeros c b (r + l) n) → ZeroBytes b r l (l + n)
  unfolding zeros
  zero-bytes r l n t j g h =
      let d = le_dest g in
      let e : byte b (r + l + d.0) ≡ 0 = eqb→eq (byte b (r + l + d.0)) 0 (every-at n (λ i. eqb (byte b (r + l + i)) 0) t d.0 (omega (arith, d.1))) in
      let f : r + l + d.0 ≡ r + j = omega (arith, d.1) in
      rw f at e

  abbrev row : ℕ → Bool
  row k = zeros c b (width_at k + 3) 1 && zeros c b (width_at k + 12) 4

  abbrev size : ℕ → Bool
  size k = zeros c b (size_at c k + 2) 2

  abbrev stage : ℕ → Bool
  stage s = zeros c b (stage_at c s + 4) 12

  abbrev repeater : ℕ → Bool
  repeater r = zeros c b (repeater_at c r + 5) 11

  -- bytes that are named in one form alone
  named-or : (w form l n : ℕ) → ((weight_form c b w ≡ form → ⊥) → ZeroBytes b (weight_at c w) l (l + n)) → T (eqb (weight_form c b w) form || zeros c b (weight_at c w + l) n)
  named-or w form l n f = go (ℕ_discrete (weight_form c b w) form)
    where
      go : Dec (weight_form c b w ≡ form) → T (eqb (weight_form c b w) form || zeros c b (weight_at c w + l) n)
      go (yes e) = rw (eq-eqb (weight_form c b w) form e) tt
      go (no m) = rw (ne_eqb (weight_form c b w) form m) (bytes-zero (weight_at c w) l n (f m))

  or-unnamed : (w form l n : ℕ) → T (eqb (weight_form c b w) form || zeros c b (weight_at c w + l) n) → (weight_form c b w ≡ form → ⊥) → ZeroBytes b (weight_at c w) l (l + n)
  or-unnamed w form l n t m = zero-bytes (weight_at c w) l n (rw (ne_eqb (weight_form c b w) form m) at t)

  weight-passes : UnnamedZero c b → (w : ℕ) → w < weight_records b → T (weight_zeros c b w)
  unfolding weight_zeros
  weight-passes u w h =
      T_and (zeros c b (weight_at c w + 3) 1) _ (bytes-zero (weight_at c w) 3 1 (u.weights w h))
      (T_and (eqb (weight_form c b w) 1 || zeros c b (weight_at c w + 4) 4) _ (named-or w 1 4 4 (u.wholes w h)) (named-or w 2 8 8 (u.fractions w h)))

  -- what is zero in a weight record
  record WeightZero (w : ℕ) : Type 0 where
    third : T (zeros c b (weight_at c w + 3) 1)
    whole : T (eqb (weight_form c b w) 1 || zeros c b (weight_at c w + 4) 4)
    fraction : T (eqb (weight_form c b w) 2 || zeros c b (weight_at c w + 8) 8)

  passes-weight : (w : ℕ) → T (weight_zeros c b w) → WeightZero w
  unfolding weight_zeros
  passes-weight w t =
      let a = and_T (zeros c b (weight_at c w + 3) 1) _ t in
      let d = and_T (eqb (weight_form c b w) 1 || zeros c b (weight_at c w + 4) 4) (eqb (weight_form c b w) 2 || zeros c b (weight_at c w + 8) 8) a.1 in
      record { third = a.0; whole = d.0; fraction = d.1 }

  zero-passes : UnnamedZero c b → T (question5 c b)
  unfolding question5
  zero-passes u =
      T_and (every c.widths row) (every c.sizes size && (every c.stages stage && (every c.repeaters repeater && every (weight_records b) (weight_zeros c b))))
      (at_every c.widths row (λ k h. T_and (zeros c b (width_at k + 3) 1) _ (bytes-zero (width_at k) 3 1 (u.widths_before k h)) (bytes-zero (width_at k) 12 4 (u.widths_behind k h))))
      (T_and (every c.sizes size) (every c.stages stage && (every c.repeaters repeater && every (weight_records b) (weight_zeros c b)))
      (at_every c.sizes size (λ k h. bytes-zero (size_at c k) 2 2 (u.sizes k h)))
      (T_and (every c.stages stage) (every c.repeaters repeater && every (weight_records b) (weight_zeros c b))
      (at_every c.stages stage (λ s h. bytes-zero (stage_at c s) 4 12 (u.stages s h)))
      (T_and (every c.repeaters repeater) (every (weight_records b) (weight_zeros c b))
      (at_every c.repeaters repeater (λ r h. bytes-zero (repeater_at c r) 5 11 (u.repeaters r h)))
      (at_every (weight_records b) (weight_zeros c b) (weight-passes u)))))

  passes-zero : T (question5 c b) → UnnamedZero c b
  unfolding question5
  passes-zero t =
      let t1 = and_T (every c.widths row) _ t in
      let t2 = and_T (every c.sizes size) (every c.stages stage && (every c.repeaters repeater && every (weight_records b) (weight_zeros c b))) t1.1 in
      let t3 = and_T (every c.stages stage) (every c.repeaters repeater && every (weight_records b) (weight_zeros c b)) t2.1 in
      let t4 = and_T (every c.repeaters repeater) (every (weight_records b) (weight_zeros c b)) t3.1 in
      let f : (w : ℕ) → w < weight_records b → WeightZero w = λ w h. passes-weight w (every-at (weight_records b) (weight_zeros c b) t4.1 w h) in
      record {
        widths_before = λ k h. zero-bytes (width_at k) 3 1 (and_T (zeros c b (width_at k + 3) 1) _ (every-at c.widths row t1.0 k h)).0;
        widths_behind = λ k h. zero-bytes (width_at k) 12 4 (and_T (zeros c b (width_at k + 3) 1) _ (every-at c.widths row t1.0 k h)).1;
        sizes = λ k h. zero-bytes (size_at c k) 2 2 (every-at c.sizes size t2.0 k h);
        stages = λ s h. zero-bytes (stage_at c s) 4 12 (every-at c.stages stage t3.0 s h);
        repeaters = λ r h. zero-bytes (repeater_at c r) 5 11 (every-at c.repeaters repeater t4.0 r h);
        weights = λ w h. zero-bytes (weight_at c w) 3 1 (f w h).third;
        wholes = λ w h. or-unnamed w 1 4 4 (f w h).whole;
        fractions = λ w h. or-unnamed w 2 8 8 (f w h).fraction;
      }

  pub unnamed-only : T (question5 c b) ↔ UnnamedZero c b
  unnamed-only = (passes-zero, zero-passes)
