-- What question 20 says of each weight record, and that the weight of a sink is at most 255.
use mathlib.Core.Path.{◌≡◌, refl}
use mathlib.Core.Bool.{Bool, true, false, cond, not, ◌&&◌, ◌||◌}
use mathlib.Core.List.{List}
use Prim.Native.Nat.{ℕ, zero, suc, ◌≤◌, ◌<◌}
use native.Mathlib.Decide.{ℕ_discrete}
use native.Mathlib.Omega.{arith}
use borrow.Author.Tests.{ne_eqb}
use lib.Dec.{T, leb, ltb, eqb, leb→le, ltb→lt, lit≤}
use lib.Ieee.{Float}
use Rattle.lattice.proofs.ListLaws.{and_T, every-at}
use Rattle.net.specs.declared.Counts.{Counts}
use Rattle.net.specs.Job.{weight_records, segment_sink, segment_weight, weight_segment, weight_form, weight_whole}
use Rattle.net.specs.Weights.{last_at, counts_as, fraction_count, fraction, weight_count, weighs, sink_weight}
use Rattle.net.specs.Questions.{question20}
use Rattle.net.specs.Checked.{WeightFits}

-- What is so of each value that `last_at` may have is so of the one that it has.
pub last_at-holds : (P : ℕ → Type 0) (n : ℕ) (f : ℕ → Bool) (g : ℕ → ℕ) (d : ℕ) → P d → ((k : ℕ) → k < n → f k ≡ true → P (g k)) → P (last_at n f g d)
unfolding last_at
last_at-holds P zero f g d h a = h
last_at-holds P (suc n) f g d h a = go (f n) refl (last_at-holds P n f g d h (λ k l. a k (omega arith)))
  where
    go : (t : Bool) → f n ≡ t → P (last_at n f g d) → P (cond t (g n) (last_at n f g d))
    go true e r = a n (omega arith) e
    go false e r = r

pub fraction-small : (x : Float) → fraction_count x ≤ 255
unfolding fraction_count
fraction-small x = last_at-holds (λ v. v ≤ 255) 256 (counts_as x) (λ k. k) 0 (lit≤ tt) (λ k l t. omega arith)

module _ (c : Counts) (b : List ℕ) where
  -- the tests of question 20, one behind another
  abbrev fits : ℕ → Bool
  fits w =
      ltb (weight_segment c b w) c.segments
      && (not (eqb (segment_sink c b (weight_segment c b w)) 0) && (leb (weight_form c b w) 2 && (not (eqb (weight_form c b w) 1) || leb (weight_whole c b w) 255)))

  pub weights-fit : T (question20 c b) → (w : ℕ) → w < weight_records b → WeightFits c b w
  unfolding question20
  weights-fit t w h =
      let t1 = and_T (ltb (weight_segment c b w) c.segments) _ (every-at (weight_records b) fits t w h) in
      let t2 = and_T (not (eqb (segment_sink c b (weight_segment c b w)) 0)) _ t1.1 in
      let t3 = and_T (leb (weight_form c b w) 2) (not (eqb (weight_form c b w) 1) || leb (weight_whole c b w) 255) t2.1 in
      record {
        segment = ltb→lt _ _ t1.0;
        sink = λ e. rw e at t2.0;
        form = leb→le _ _ t3.0;
        whole = λ e. leb→le _ _ (rw e at t3.1);
      }

  -- A sink's own byte and what a weight record counts are at most 255.
  pub weight-small : (i : ℕ) → segment_weight c b i ≤ 255 → T (question20 c b) → sink_weight c b i ≤ 255
  unfolding sink_weight weight_count
  weight-small i h t = last_at-holds (λ v. v ≤ 255) (weight_records b) (weighs c b i) (weight_count c b) (segment_weight c b i) h (λ w l e. go w l (ℕ_discrete (weight_form c b w) 1))
    where
      go : (w : ℕ) → w < weight_records b → Dec (weight_form c b w ≡ 1) → cond (eqb (weight_form c b w) 1) (weight_whole c b w) (fraction_count (fraction c b w)) ≤ 255
      go w l (yes e) = rw e ((weights-fit t w l).whole e)
      go w l (no n) = rw (ne_eqb (weight_form c b w) 1 n) (fraction-small (fraction c b w))
