-- What passed questions give: a job that passes questions 1 to 11 and 20 to 24 has the facts of `Checked`, so its net is ordered and within the
-- limits, its allowed sizings are closed and not empty, its delay is submodular on them and below 2 ^ 63, its load figure is what its drivers
-- charge, and each of its records is counted in its kind.
use mathlib.Core.Path.{◌≡◌, ◌∙◌, refl, sym}
use mathlib.Core.Logic.{◌↔◌}
use mathlib.Core.Bool.{Bool, true, false, ◌&&◌}
use mathlib.Core.List.{List, ◌∷◌}
use Prim.Native.Nat.{ℕ, zero, suc, ◌+◌, ◌*◌, ◌-◌, ◌^◌, ◌≤◌, ◌<◌}
use native.Mathlib.Nat.{mul-le-mul, mul-le-mul_right}
use native.Mathlib.Omega.{arith}
use lib.Dec.{T, leb, ltb, eqb, leb→le, ltb→lt, eqb→eq, lit<}
use lib.ListN.{length}
use Rattle.lattice.specs.Lists.{at, sum, every, tabulate}
use Rattle.lattice.specs.Space.{Allowed, Falls, Rises, Boxed, in_box, within, Submodular}
use Rattle.lattice.proofs.ListLaws.{is_true, and_T, T_and, every-at, some_at, length-tabulate, at-tabulate}
use Rattle.lattice.proofs.Boxes.{in_box-iff}
use Rattle.lattice.proofs.Sums.{rises-steps, falls-steps}
use Rattle.net.specs.declared.Counts.{Counts}
use Rattle.net.specs.Job.{counts_of, weight_records, of_kind, widths_of, first_row, row_resistance, row_capacitance, size_resistance, size_gate, size_output, stage_lowest, stage_highest, segment_parent, segment_sink, segment_length, sink_capacitance, segment_weight, segment_lowest, segment_highest, segment_layer, repeater_segment, repeater_lowest, repeater_highest}
use Rattle.net.specs.Net.{Net, places, net_by, net_of}
use Rattle.net.specs.Delay.{delay, load_figure}
use Rattle.net.specs.Segments.{stage_charge, repeater_charge}
use Rattle.net.specs.Sizings.{allowed}
use Rattle.net.specs.Questions.{in_range, question1, question2, question24, question3, question4, sink_or_zero, question5, question6, question7, question8, question9, question10, has_branches, question11, question22, question23, question20, question21, Question, ask, first_no, job_questions, refusal}
use Rattle.net.specs.Checked.{Held, Checked, InRanges, Ordered, Limited}
use Rattle.net.proofs.Dominance.{delay-submodular}
use Rattle.net.proofs.Bound.{delay-fits}
use Rattle.net.proofs.Charged.{load-charged}
use Rattle.net.proofs.Places.{is-stage, is-segment, is-repeater, kinds}
use Rattle.net.proofs.Order.{rising-steps}
use Rattle.net.proofs.SinkWeights.{weight-small}
use Rattle.net.proofs.Records.{counts-held, layer-1, row-held, counts-fill}

-- where no question fails, the first passes and so do the rest
pub first_no-zero : (n : ℕ) (q : Bool) (qs : List Question) → first_no (ask (suc n) q ∷ qs) ≡ 0 → T q × (first_no qs ≡ 0)
unfolding first_no
first_no-zero n true qs e = (tt, e)
first_no-zero n false qs e = absurd (omega arith)

-- The sixteen questions, all passed.
pub record Passed (c : Counts) (b : List ℕ) : Type 0 where
  pub one : T (question1 b)
  pub two : T (question2 b)
  pub layers : T (question24 c b)
  pub three : T (question3 c)
  pub four : T (question4 c b)
  pub five : T (question5 c b)
  pub six : T (question6 c b)
  pub seven : T (question7 c b)
  pub eight : T (question8 c b)
  pub nine : T (question9 c b)
  pub ten : T (question10 c b)
  pub eleven : T (question11 c b)
  pub sited : T (question22 c b)
  pub repeated : T (question23 c b)
  pub weighed : T (question20 c b)
  pub fractions : T (question21 c b)

pub passed : (b : List ℕ) → refusal b ≡ 0 → Passed (counts_of b) b
unfolding refusal job_questions
passed b e =
    let c : Counts = counts_of b in
    let a1 = first_no-zero 0 (question1 b) _ e in
    let a2 = first_no-zero 1 (question2 b) _ a1.1 in
    let a24 = first_no-zero 23 (question24 c b) _ a2.1 in
    let a3 = first_no-zero 2 (question3 c) _ a24.1 in
    let a4 = first_no-zero 3 (question4 c b) _ a3.1 in
    let a5 = first_no-zero 4 (question5 c b) _ a4.1 in
    let a6 = first_no-zero 5 (question6 c b) _ a5.1 in
    let a7 = first_no-zero 6 (question7 c b) _ a6.1 in
    let a8 = first_no-zero 7 (question8 c b) _ a7.1 in
    let a9 = first_no-zero 8 (question9 c b) _ a8.1 in
    let a10 = first_no-zero 9 (question10 c b) _ a9.1 in
    let a11 = first_no-zero 10 (question11 c b) _ a10.1 in
    let a22 = first_no-zero 21 (question22 c b) _ a11.1 in
    let a23 = first_no-zero 22 (question23 c b) _ a22.1 in
    let a20 = first_no-zero 19 (question20 c b) _ a23.1 in
    let a21 = first_no-zero 20 (question21 c b) _ a20.1 in
    record {
      one = a1.0;
      two = a2.0;
      layers = a24.0;
      three = a3.0;
      four = a4.0;
      five = a5.0;
      six = a6.0;
      seven = a7.0;
      eight = a8.0;
      nine = a9.0;
      ten = a10.0;
      eleven = a11.0;
      sited = a22.0;
      repeated = a23.0;
      weighed = a20.0;
      fractions = a21.0;
    }

pub in-range : (l h v : ℕ) → T (in_range l h v) → (l ≤ v) × (v ≤ h)
in-range l h v t = let a = and_T (leb l v) (leb v h) t in (leb→le l v a.0, leb→le v h a.1)

-- each question's facts
module _ (c : Counts) (b : List ℕ) (a : Passed c b) where
  few : (widths_of c 0 ≤ 8) × (widths_of c 1 ≤ 8) × (c.sizes ≤ 16) × (1 ≤ c.stages) × (c.stages ≤ 4) × (c.segments ≤ 64) × (c.repeaters ≤ 8)
  unfolding question3
  few =
      let v = and_T (in_range 1 8 (widths_of c 0)) _ a.three in
      let w = and_T (in_range 0 8 (widths_of c 1)) _ v.1 in
      let s = and_T (in_range 1 16 c.sizes) _ w.1 in
      let t = and_T (in_range 1 4 c.stages) _ s.1 in
      let u = and_T (in_range 1 64 c.segments) (in_range 0 8 c.repeaters) t.1 in (
        (in-range 1 8 _ v.0).1,
        (in-range 0 8 _ w.0).1,
        (in-range 1 16 _ s.0).1,
        (in-range 1 4 _ t.0).0,
        (in-range 1 4 _ t.0).1,
        (in-range 1 64 _ u.0).1,
        (in-range 0 8 _ u.1).1,
      )

  -- A layer byte above 1 counts as 1.
  same-layer : (l : ℕ) → (widths_of c (suc l) ≡ widths_of c 1) × (first_row c (suc l) ≡ first_row c 1)
  same-layer l =
      let e = layer-1 c (suc l) (λ z. omega (arith, z)) in
      let f = layer-1 c 1 (λ z. omega (arith, z)) in
      (e.0 ∙ sym f.0, e.1 ∙ sym f.1)

  few-widths : (l : ℕ) → widths_of c l ≤ 8
  few-widths zero = few.0
  few-widths (suc l) = rw (same-layer l).0 few.1

  rows : (k : ℕ) → k < c.widths → (row_resistance b k ≤ 100) × (row_capacitance b k ≤ 100)
  unfolding question6
  rows k h =
      let t = (and_T (every c.widths (λ j. in_range 1 100 (row_resistance b j) && in_range 1 100 (row_capacitance b j))) _ a.six).0 in
      let v = and_T (in_range 1 100 (row_resistance b k)) (in_range 1 100 (row_capacitance b k)) (every-at c.widths _ t k h) in
      ((in-range 1 100 _ v.0).1, (in-range 1 100 _ v.1).1)

  drivers : (k : ℕ) → k < c.sizes → (size_resistance c b k ≤ 100000) × (size_gate c b k ≤ 100000) × (size_output c b k ≤ 100000)
  unfolding question6
  drivers k h =
      let t = (and_T (every c.widths (λ j. in_range 1 100 (row_resistance b j) && in_range 1 100 (row_capacitance b j))) _ a.six).1 in
      let v = and_T (in_range 1 100000 (size_resistance c b k)) _ (every-at c.sizes _ t k h) in
      let w = and_T (in_range 1 100000 (size_gate c b k)) (in_range 0 100000 (size_output c b k)) v.1 in
      ((in-range 1 100000 _ v.0).1, (in-range 1 100000 _ w.0).1, (in-range 0 100000 _ w.1).1)

  -- Does row k of layer l have a larger resistance and a smaller capacitance than the next?
  abbrev rows_fall : ℕ → ℕ → Bool
  rows_fall l k = ltb (row_resistance b (first_row c l + suc k)) (row_resistance b (first_row c l + k)) && ltb (row_capacitance b (first_row c l + k)) (row_capacitance b (first_row c l + suc k))

  abbrev RowsFall : ℕ → ℕ → Type 0
  RowsFall l k = (row_resistance b (first_row c l + suc k) < row_resistance b (first_row c l + k)) × (row_capacitance b (first_row c l + k) < row_capacitance b (first_row c l + suc k))

  layer-order : (l k : ℕ) → l < 2 → suc k < widths_of c l → RowsFall l k
  unfolding question7
  layer-order l k m h =
      let t = (and_T (every 2 (λ z. every (widths_of c z - 1) (rows_fall z))) _ a.seven).0 in
      let u = every-at 2 (λ z. every (widths_of c z - 1) (rows_fall z)) t l m in
      let v = and_T (ltb (row_resistance b (first_row c l + suc k)) (row_resistance b (first_row c l + k))) _ (every-at (widths_of c l - 1) (rows_fall l) u k (omega arith)) in
      (ltb→lt _ _ v.0, ltb→lt _ _ v.1)

  rows-order : (l k : ℕ) → suc k < widths_of c l → RowsFall l k
  rows-order zero k h = layer-order 0 k (lit< tt) h
  rows-order (suc l) k h = rw (same-layer l).1 (layer-order 1 k (lit< tt) (rw (same-layer l).0 at h))

  drivers-order : (k : ℕ) → suc k < c.sizes → (size_resistance c b (suc k) < size_resistance c b k) × (size_gate c b k < size_gate c b (suc k))
  unfolding question7
  drivers-order k h =
      let t = (and_T (every 2 (λ z. every (widths_of c z - 1) (rows_fall z))) _ a.seven).1 in
      let v = and_T (ltb (size_resistance c b (suc k)) (size_resistance c b k)) (ltb (size_gate c b k) (size_gate c b (suc k))) (every-at (c.sizes - 1) _ t k (omega arith)) in
      (ltb→lt _ _ v.0, ltb→lt _ _ v.1)

  stage-range : (s : ℕ) → s < c.stages → (stage_lowest c b s ≤ stage_highest c b s) × (stage_highest c b s < c.sizes)
  unfolding question8
  stage-range s h =
      let t = (and_T (every c.stages (λ j. leb (stage_lowest c b j) (stage_highest c b j) && ltb (stage_highest c b j) c.sizes)) _ a.eight).0 in
      let v = and_T (leb (stage_lowest c b s) (stage_highest c b s)) (ltb (stage_highest c b s) c.sizes) (every-at c.stages _ t s h) in
      (leb→le _ _ v.0, ltb→lt _ _ v.1)

  parents : (i : ℕ) → i < c.segments → segment_parent c b i ≤ i
  unfolding question9
  parents i h = leb→le _ _ (every-at c.segments (λ j. leb (segment_parent c b j) j) a.nine i h)

  -- the fields of a segment
  segment-fields : (i : ℕ) → i < c.segments
      → (segment_sink c b i ≤ 1) × (segment_length c b i ≤ 1000) × (sink_capacitance c b i ≤ 100000) × (segment_weight c b i ≤ 255)
      × (segment_lowest c b i ≤ segment_highest c b i) × (segment_highest c b i < widths_of c (segment_layer c b i))
  unfolding question10
  segment-fields i h =
      let t1 = and_T (in_range 0 1 (segment_sink c b i)) _ (every-at c.segments _ a.ten i h) in
      let t2 = and_T (in_range 1 1000 (segment_length c b i)) _ t1.1 in
      let t3 = and_T (in_range 0 100000 (sink_capacitance c b i)) _ t2.1 in
      let t4 = and_T (in_range 0 255 (segment_weight c b i)) _ t3.1 in
      let t5 = and_T (sink_or_zero c b i) _ t4.1 in
      let t6 = and_T (leb (segment_lowest c b i) (segment_highest c b i)) (ltb (segment_highest c b i) (widths_of c (segment_layer c b i))) t5.1 in (
        (in-range 0 1 _ t1.0).1,
        (in-range 1 1000 _ t2.0).1,
        (in-range 0 100000 _ t3.0).1,
        (in-range 0 255 _ t4.0).1,
        leb→le _ _ t6.0,
        ltb→lt _ _ t6.1,
      )

  -- the segments of the repeaters
  sited : (r : ℕ) → r < c.repeaters → T (ltb (repeater_segment c b r) c.segments) × T (has_branches c b (repeater_segment c b r))
  unfolding question22
  sited r h =
      let t = (and_T (every c.repeaters (λ z. ltb (repeater_segment c b z) c.segments && has_branches c b (repeater_segment c b z))) _ a.sited).0 in
      and_T (ltb (repeater_segment c b r) c.segments) (has_branches c b (repeater_segment c b r)) (every-at c.repeaters _ t r h)

  branched : (r : ℕ) → r < c.repeaters → (j : ℕ) × (j < c.segments) × (segment_parent c b j ≡ suc (repeater_segment c b r))
  unfolding has_branches
  branched r h =
      let s = some_at c.segments (λ j. eqb (segment_parent c b j) (suc (repeater_segment c b r))) (sited r h).1 in
      (s.0, s.1, eqb→eq _ _ s.2)

  rising : (r : ℕ) → suc r < c.repeaters → repeater_segment c b r < repeater_segment c b (suc r)
  unfolding question22
  rising r h =
      let t = (and_T (every c.repeaters (λ z. ltb (repeater_segment c b z) c.segments && has_branches c b (repeater_segment c b z))) _ a.sited).1 in
      ltb→lt _ _ (every-at (c.repeaters - 1) (λ z. ltb (repeater_segment c b z) (repeater_segment c b (suc z))) t r (omega arith))

  repeater-range : (r : ℕ) → r < c.repeaters → (repeater_lowest c b r ≤ repeater_highest c b r) × (repeater_highest c b r < c.sizes)
  unfolding question23
  repeater-range r h =
      let v = and_T (leb (repeater_lowest c b r) (repeater_highest c b r)) (ltb (repeater_highest c b r) c.sizes) (every-at c.repeaters _ a.repeated r h) in
      (leb→le _ _ v.0, ltb→lt _ _ v.1)

  weights : (i : ℕ) → i < c.segments → (net_by c b).weight i ≤ 255
  weights i h = weight-small c b i (segment-fields i h).3 a.weighed

-- A place's range is a stage's, a segment's or a repeater's.
module _ (c : Counts) (b : List ℕ) where
  pub stage-range-is : (s : ℕ) → s < c.stages → ((net_by c b).lowest s ≡ stage_lowest c b s) × ((net_by c b).highest s ≡ stage_highest c b s)
  unfolding of_kind
  stage-range-is s h = let k = is-stage (net_by c b) s h in (rw k, rw k)

  pub segment-range-is : (i : ℕ) → i < c.segments
      → ((net_by c b).lowest (c.stages + i) ≡ segment_lowest c b i) × ((net_by c b).highest (c.stages + i) ≡ segment_highest c b i)
  unfolding of_kind
  segment-range-is i h = let k = is-segment (net_by c b) i h in (rw (k.0, k.1, k.2), rw (k.0, k.1, k.2))

  pub repeater-range-is : (r : ℕ)
      → ((net_by c b).lowest (c.stages + c.segments + r) ≡ repeater_lowest c b r) × ((net_by c b).highest (c.stages + c.segments + r) ≡ repeater_highest c b r)
  unfolding of_kind
  repeater-range-is r = let k = is-repeater (net_by c b) r in (rw (k.0, k.1, k.2), rw (k.0, k.1, k.2))

-- All facts at once.
pub checked-by : (c : Counts) (b : List ℕ) → c ≡ counts_of b → Held c b → Passed c b → Checked c b
checked-by c b e h a =
    record {
      counted = e;
      held = h;
      few_widths = few-widths c b a;
      few_sizes = (few c b a).2;
      some_stage = (few c b a).3;
      few_stages = (few c b a).4;
      few_segments = (few c b a).5;
      few_repeaters = (few c b a).6;
      rows = rows c b a;
      drivers = drivers c b a;
      rows_order = rows-order c b a;
      drivers_order = drivers-order c b a;
      ranges = kinds (net_by c b) (λ p. (net_by c b).lowest p ≤ (net_by c b).highest p)
          (λ s l. let e = stage-range-is c b s l in rw (e.0, e.1) (stage-range c b a s l).0)
          (λ i l. let e = segment-range-is c b i l in rw (e.0, e.1) (segment-fields c b a i l).4)
          (λ r l. let e = repeater-range-is c b r in rw (e.0, e.1) (repeater-range c b a r l).0);
      sized = λ s l. rw (stage-range-is c b s l).1 (stage-range c b a s l).1;
      wired = λ i l. rw (segment-range-is c b i l).1 (segment-fields c b a i l).5;
      repeater_sized = λ r l. rw (repeater-range-is c b r).1 (repeater-range c b a r l).1;
      parents = parents c b a;
      lengths = λ i l. (segment-fields c b a i l).1;
      sinks = λ i l. (segment-fields c b a i l).2;
      weights = weights c b a;
      sites = λ r l. ltb→lt _ _ (sited c b a r l).0;
      branched = λ r l. ∣ branched c b a r l ∣₁;
      rising = rising c b a;
    }

pub checked : (b : List ℕ) → refusal b ≡ 0 → Checked (counts_of b) b
checked b e = checked-by (counts_of b) b refl (counts-held b) (passed b e)

module _ {c : Counts} {b : List ℕ} (k : Checked c b) where
  -- the rows of a layer times a length
  rows-fall : (z l h m : ℕ) → h < widths_of c z → Falls l h (λ w. row_resistance b (first_row c z + w) * m)
  rows-fall z l h m n = falls-steps l h (λ w. row_resistance b (first_row c z + w) * m) (λ w i j. let o = k.rows_order z w (omega arith) in mul-le-mul_right m (omega arith))

  rows-rise : (z l h m : ℕ) → h < widths_of c z → Rises l h (λ w. row_capacitance b (first_row c z + w) * m)
  rows-rise z l h m n = rises-steps l h (λ w. row_capacitance b (first_row c z + w) * m) (λ w i j. let o = k.rows_order z w (omega arith) in mul-le-mul_right m (omega arith))

  -- the figures of segment i's wire at a width of its layer
  pub wire-small : (i w : ℕ) → i < c.segments → w < widths_of c (segment_layer c b i) → ((net_by c b).wire_resistance i w ≤ 100000) × ((net_by c b).wire_capacitance i w ≤ 100000)
  wire-small i w h n =
      let r = k.rows (first_row c (segment_layer c b i) + w) (row-held k.held (segment_layer c b i) w n) in
      (mul-le-mul r.0 (k.lengths i h), mul-le-mul r.1 (k.lengths i h))

  -- the sizes of a driver, up to the highest that it may have
  sizes-fall : (l h : ℕ) → h < c.sizes → Falls l h (size_resistance c b)
  sizes-fall l h n = falls-steps l h (size_resistance c b) (λ z i j. let o = k.drivers_order z (omega arith) in omega arith)

  sizes-rise : (l h : ℕ) → h < c.sizes → Rises l h (size_gate c b)
  sizes-rise l h n = rises-steps l h (size_gate c b) (λ z i j. let o = k.drivers_order z (omega arith) in omega arith)

  pub ordered : Ordered (net_by c b)
  ordered =
      record {
        parents = k.parents;
        drivers = λ s h. sizes-fall _ _ (k.sized s h);
        gates = λ s h. sizes-rise _ _ (k.sized s h);
        resistances = λ i h. rows-fall (segment_layer c b i) _ _ _ (k.wired i h);
        capacitances = λ i h. rows-rise (segment_layer c b i) _ _ _ (k.wired i h);
        sites = k.sites;
        rising = rising-steps c.repeaters (repeater_segment c b) k.rising;
        repeater_drivers = λ r h. sizes-fall _ _ (k.repeater_sized r h);
        repeater_gates = λ r h. sizes-rise _ _ (k.repeater_sized r h);
      }

  pub limited : Limited (net_by c b)
  limited =
      record {
        stages = k.few_stages;
        segments = k.few_segments;
        repeaters = k.few_repeaters;
        weights = k.weights;
        sinks = k.sinks;
        resistances = λ i w h n. (wire-small i w h (omega (arith, k.wired i h))).0;
        capacitances = λ i w h n. (wire-small i w h (omega (arith, k.wired i h))).1;
        drivers = λ s z h n. (k.drivers z (omega (arith, k.sized s h))).0;
        gates = λ s z h n. (k.drivers z (omega (arith, k.sized s h))).1;
        outputs = λ s z h n. (k.drivers z (omega (arith, k.sized s h))).2;
        repeater_sizes = λ r z h n. k.drivers z (omega (arith, k.repeater_sized r h));
      }

  module _ {x : List ℕ} (a : InRanges (net_by c b) x) where
    -- an index in its range is one of its table
    pub width-held : (i : ℕ) → i < c.segments → at x (c.stages + i) < widths_of c (segment_layer c b i)
    width-held i l = omega (arith, k.wired i l, a.high (c.stages + i) (omega arith))

    pub size-held : (s : ℕ) → s < c.stages → at x s < c.sizes
    size-held s l = omega (arith, k.sized s l, a.high s (omega arith))

    pub repeater-held : (r : ℕ) → r < c.repeaters → at x (c.stages + c.segments + r) < c.sizes
    repeater-held r l = omega (arith, k.repeater_sized r l, a.high (c.stages + c.segments + r) (omega arith))

-- An allowed sizing is one whose indices are in their ranges.
pub box-iff : (n : ℕ) (low high : ℕ → ℕ) (x : List ℕ) → Allowed (within n low high (λ y. true)) x ↔ Boxed n low high x
unfolding within
box-iff n low high x =
    let i = in_box-iff n low high x in (
      λ t. i.0 (and_T (in_box n low high x) true t).0,
      λ y. T_and (in_box n low high x) true (i.1 y) tt,
    )

pub allowed-iff : (net : Net) (x : List ℕ) → Allowed (allowed net) x ↔ Boxed (places net) net.lowest net.highest x
allowed-iff net x = box-iff (places net) net.lowest net.highest x

pub allowed-long : (net : Net) (x : List ℕ) → Allowed (allowed net) x → length x ≡ places net
allowed-long net x a = ((allowed-iff net x).0 a).long

pub allowed-ranges : (net : Net) (x : List ℕ) → Allowed (allowed net) x → InRanges net x
allowed-ranges net x t = let y = (allowed-iff net x).0 t in record { long = omega (arith, y.long); low = y.low; high = y.high }

-- The lowest index at each place: an allowed sizing of every job that passes.
unfoldable pub lowest_sizing : Net → List ℕ
lowest_sizing net = tabulate (places net) net.lowest

module _ {c : Counts} {b : List ℕ} (k : Checked c b) where
  -- the instance of the theory: the allowed sizings are closed (`allowed-lattice`) and not empty, and the delay is submodular on them
  pub checked-allowed : Allowed (allowed (net_by c b)) (lowest_sizing (net_by c b))
  unfolding lowest_sizing
  checked-allowed =
      let n = places (net_by c b) in
      let f = (net_by c b).lowest in
      (allowed-iff (net_by c b) (tabulate n f)).1
      record {
        long = length-tabulate n f;
        low = λ p h. rw (at-tabulate n f p h) (omega arith);
        high = λ p h. rw (at-tabulate n f p h) (k.ranges p (omega arith));
      }

  pub checked-submodular : Submodular (allowed (net_by c b)) (delay (net_by c b))
  checked-submodular = delay-submodular (net_by c b) (ordered k)

  -- every scaled delay is below 2 ^ 63
  pub checked-fits : (x : List ℕ) → Allowed (allowed (net_by c b)) x → delay (net_by c b) x < 2 ^ 63
  checked-fits x a = delay-fits (net_by c b) (ordered k) (limited k) x (allowed-ranges (net_by c b) x a)

  -- the load figure is what the drivers charge together
  pub checked-charged : (x : List ℕ) → sum c.stages (stage_charge (net_by c b) x) + sum c.repeaters (repeater_charge (net_by c b) x) ≡ load_figure (net_by c b) x
  checked-charged x = load-charged (net_by c b) x (ordered k) k.some_stage

-- The same of every job that passes questions 1 to 11 and 20 to 24.
module _ (b : List ℕ) (e : refusal b ≡ 0) where
  pub job-allowed : Allowed (allowed (net_of b)) (lowest_sizing (net_of b))
  job-allowed = checked-allowed (checked b e)

  pub job-submodular : Submodular (allowed (net_of b)) (delay (net_of b))
  job-submodular = checked-submodular (checked b e)

  pub job-fits : (x : List ℕ) → Allowed (allowed (net_of b)) x → delay (net_of b) x < 2 ^ 63
  job-fits = checked-fits (checked b e)

  pub job-filled : 16 * ((counts_of b).widths + (counts_of b).sizes + (counts_of b).stages + (counts_of b).segments + (counts_of b).repeaters + weight_records b) ≡ length b
  job-filled = let a = passed b e in counts-fill b (is_true _ a.one) (is_true _ a.two)

  pub job-charged : (x : List ℕ) → sum (net_of b).stages (stage_charge (net_of b) x) + sum (net_of b).repeaters (repeater_charge (net_of b) x) ≡ load_figure (net_of b) x
  job-charged = checked-charged (checked b e)
