-- The questions and the net as they are without layers and without weight records, each named as the former one, and each with what repeaters add: a
-- job without weight records whose layer bytes are all 0 gets the number that it gets without layers, and has that net. None of the former ones is a
-- definition of the library.
use mathlib.Core.Path.{◌≡◌, ◌∙◌, refl, sym, ap, ap₂, fun_ext}
use mathlib.Core.Bool.{Bool, true, false, not, ◌&&◌, ◌||◌, and-true}
use mathlib.Core.List.{List, [], ◌∷◌, ◌++◌}
use Prim.Native.Nat.{ℕ, zero, suc, ◌+◌, ◌*◌, ◌-◌, ◌≤◌, ◌<◌}
use native.Mathlib.Nat.{zero-add}
use native.Mathlib.Decide.{ℕ_discrete, dec_le}
use native.Mathlib.Omega.{arith}
use borrow.Author.Tests.{eq-eqb}
use lib.Dec.{T, leb, ltb, eqb, leb→le, eqb→eq, lit≤, lit<}
use lib.ListN.{length}
use Rattle.lattice.specs.Lists.{every}
use Rattle.lattice.proofs.ListLaws.{is_true, and_T, every-at, at_every}
use Rattle.lattice.proofs.Every.{every-same}
use Rattle.net.specs.declared.Counts.{Counts}
use Rattle.net.specs.Job.{byte, records, kind, count_if, counts_of, weight_records, of_kind, width_at, width_layer, widths_of, first_row, size_at, stage_at, segment_at, repeater_at, row_resistance, row_capacitance, size_resistance, size_gate, size_output, stage_lowest, stage_highest, segment_parent, segment_sink, segment_length, sink_capacitance, segment_weight, segment_lowest, segment_highest, segment_layer, repeater_segment, repeater_lowest, repeater_highest}
use Rattle.net.specs.Net.{Net, net_of}
use Rattle.net.specs.Questions.{in_range, question1, question2, question24, question3, zeros, question6, question7, question8, question9, sink_or_zero, question10, question11, question22, question23, Question, ask, first_no, job_questions, refusal}
use Rattle.net.proofs.Records.{never-falls, counts_each, counts-alike, counts-grow, counts-fill, layer-0, layer-1}
use Rattle.net.proofs.Questions.{in-range, Passed, passed}
use Rattle.net.proofs.Answers.{job-fails}
use Rattle.net.proofs.Unnamed.{unnamed-only}
use Rattle.net.proofs.Unweighted.{unweighted_question2, unweighted_question4, unweighted_question5, unweighted_net, unweighted_questions, net-unweighted, asked-unweighted}

-- The former 3. Is each kind's count in its range?
unfoldable pub former_question3 : Counts → Bool
former_question3 c = in_range 1 8 c.widths && (in_range 1 16 c.sizes && (in_range 1 4 c.stages && (in_range 1 64 c.segments && in_range 0 8 c.repeaters)))

module _ (c : Counts) (b : List ℕ) where
  -- The former 4. Do numbers count from 0 in each kind?
  unfoldable pub former_question4 : Bool
  former_question4 =
      every c.widths (λ k. eqb (byte b (width_at k + 1)) k)
      && (every c.sizes (λ k. eqb (byte b (size_at c k + 1)) k)
      && (every c.stages (λ s. eqb (byte b (stage_at c s + 1)) s)
      && (every c.segments (λ i. eqb (byte b (segment_at c i + 1)) i)
      && every c.repeaters (λ r. eqb (byte b (repeater_at c r + 1)) r))))

  -- The former 5. Are all unnamed bytes zero? Byte 2 of a width and byte 15 of a segment were among them.
  unfoldable pub former_question5 : Bool
  former_question5 =
      every c.widths (λ k. zeros c b (width_at k + 2) 2 && zeros c b (width_at k + 12) 4)
      && (every c.sizes (λ k. zeros c b (size_at c k + 2) 2)
      && (every c.stages (λ s. zeros c b (stage_at c s + 4) 12)
      && (every c.segments (λ i. zeros c b (segment_at c i + 15) 1)
      && every c.repeaters (λ r. zeros c b (repeater_at c r + 5) 11))))

  -- The former 7. In each of the two tables, does resistance strictly fall, and do width capacitance and gate capacitance strictly rise?
  unfoldable pub former_question7 : Bool
  former_question7 =
      every (c.widths - 1)
      (λ k. ltb (row_resistance b (suc k)) (row_resistance b k) && ltb (row_capacitance b k) (row_capacitance b (suc k)))
      && every (c.sizes - 1)
      (λ k. ltb (size_resistance c b (suc k)) (size_resistance c b k) && ltb (size_gate c b k) (size_gate c b (suc k)))

  -- The former 10. Are segment fields in range, capacitance and weight 0 where there is no sink, and lowest ≤ highest < count of widths?
  unfoldable pub former_question10 : Bool
  former_question10 =
      every c.segments
      (λ i. in_range 0 1 (segment_sink c b i)
      && (in_range 1 1000 (segment_length c b i)
      && (in_range 0 100000 (sink_capacitance c b i)
      && (in_range 0 255 (segment_weight c b i)
      && (sink_or_zero c b i && (leb (segment_lowest c b i) (segment_highest c b i) && ltb (segment_highest c b i) c.widths))))))

  -- The former net: a segment's resistance is its row's times length, its capacitance likewise.
  abbrev pub former_net : Net
  former_net =
      record {
        stages = c.stages;
        segments = c.segments;
        repeaters = c.repeaters;
        lowest = of_kind c.stages c.segments (stage_lowest c b) (segment_lowest c b) (repeater_lowest c b);
        highest = of_kind c.stages c.segments (stage_highest c b) (segment_highest c b) (repeater_highest c b);
        driver_resistance = size_resistance c b;
        gate = size_gate c b;
        output = size_output c b;
        wire_resistance = λ i k. row_resistance b k * segment_length c b i;
        wire_capacitance = λ i k. row_capacitance b k * segment_length c b i;
        parent = segment_parent c b;
        sink = sink_capacitance c b;
        weight = segment_weight c b;
        site = repeater_segment c b;
      }

-- The former questions of a job.
unfoldable pub former_questions : List ℕ → List Question
former_questions b =
    let c : Counts = counts_of b in
    ask 1 (question1 b)
    ∷ ask 2 (unweighted_question2 b)
    ∷ ask 3 (former_question3 c)
    ∷ ask 4 (former_question4 c b)
    ∷ ask 5 (former_question5 c b)
    ∷ ask 6 (question6 c b)
    ∷ ask 7 (former_question7 c b)
    ∷ ask 8 (question8 c b)
    ∷ ask 9 (question9 c b)
    ∷ ask 10 (former_question10 c b)
    ∷ ask 11 (question11 c b)
    ∷ ask 22 (question22 c b)
    ∷ ask 23 (question23 c b)
    ∷ []

-- The layer bytes of a job are all 0: byte 2 of each width, byte 15 of each segment.
pub record LayersZero (c : Counts) (b : List ℕ) : Type 0 where
  pub widths : (k : ℕ) → k < c.widths → width_layer b k ≡ 0
  pub segments : (i : ℕ) → i < c.segments → segment_layer c b i ≡ 0

-- One layer: all widths are of layer 0, so its table is the one table, and layer 1 has none.
module _ {c : Counts} {b : List ℕ} (z : LayersZero c b) (one : c.layer0 ≡ c.widths) where
  all-rows : (widths_of c 0 ≡ c.widths) × (first_row c 0 ≡ 0)
  all-rows = ((layer-0 c).0 ∙ one, (layer-0 c).1)

  no_rows : widths_of c 1 ≡ 0
  no_rows = let e = (layer-1 c 1 (λ n. omega (arith, n))).0 in omega (arith, e, one)

  same-24 : question24 c b ≡ true
  unfolding question24
  same-24 =
      let first : (f : ℕ → Bool) (n : ℕ) → ((k : ℕ) → k < n → f k ≡ true) → every n f ≡ true = λ f n h. is_true _ (at_every n f (λ k l. rw (h k l) tt)) in
      rw (first (λ k. in_range 0 1 (width_layer b k)) c.widths (λ k h. rw (z.widths k h)))
      (rw (first (λ i. in_range 0 1 (segment_layer c b i)) c.segments (λ i h. rw (z.segments i h)))
      (rw (first (λ k. leb (width_layer b k) (width_layer b (suc k))) (c.widths - 1) (λ k h. rw (z.widths k (omega arith), z.widths (suc k) (omega arith))))
      (first (λ i. not (eqb (segment_layer c b i) 1) || ltb 0 (widths_of c 1)) c.segments (λ i h. rw (z.segments i h)))))

  same-3 : question3 c ≡ former_question3 c
  unfolding question3 former_question3
  same-3 = rw (all-rows.0, no_rows)

  -- a test of each row of both layers is that of each width
  both-layers : (f : ℕ → ℕ → Bool) (n : ℕ → ℕ) → n 1 ≡ 0 → every 2 (λ l. every (n l) (f l)) ≡ every (n 0) (f 0)
  unfolding every
  both-layers f n e = rw e (and-true (every (n 0) (f 0)))

  same-4 : unweighted_question4 c b ≡ former_question4 c b
  unfolding unweighted_question4 former_question4
  same-4 =
      rw (both-layers (λ l k. eqb (byte b (width_at (first_row c l + k) + 1)) k) (widths_of c) no_rows, all-rows.0, all-rows.1)
      (ap₂ ◌&&◌ (every-same c.widths _ _ (λ k h. rw (zero-add k))) refl)

  same-7 : question7 c b ≡ former_question7 c b
  unfolding question7 former_question7
  same-7 =
      rw (
        both-layers
            (λ l k. ltb (row_resistance b (first_row c l + suc k)) (row_resistance b (first_row c l + k)) && ltb (row_capacitance b (first_row c l + k)) (row_capacitance b (first_row c l + suc k)))
            (λ l. widths_of c l - 1) (rw no_rows),
        all-rows.0,
        all-rows.1,
      )
      (ap₂ ◌&&◌ (every-same (c.widths - 1) _ _ (λ k h. rw (zero-add k, zero-add (suc k)))) refl)

  -- where the first of two bytes is zero, both are zero exactly where the second is
  second-byte : (r : ℕ) → byte b (r + 2) ≡ 0 → zeros c b (r + 3) 1 ≡ zeros c b (r + 2) 2
  unfolding zeros every
  second-byte r e =
      let f : r + 2 + 0 ≡ r + 2 = omega arith in
      let g : r + 2 + 1 ≡ r + 3 + 0 = omega arith in
      rw (f, g, e)

  last_byte : (r : ℕ) → byte b (r + 15) ≡ 0 → zeros c b (r + 15) 1 ≡ true
  unfolding zeros every
  last_byte r e = let f : r + 15 + 0 ≡ r + 15 = omega arith in rw (f, e)

  same-5 : unweighted_question5 c b ≡ former_question5 c b
  unfolding unweighted_question5 former_question5
  same-5 =
      let w : every c.widths (λ k. zeros c b (width_at k + 3) 1 && zeros c b (width_at k + 12) 4) ≡ every c.widths (λ k. zeros c b (width_at k + 2) 2 && zeros c b (width_at k + 12) 4) =
      every-same c.widths _ _ (λ k h. ap₂ ◌&&◌ (second-byte (width_at k) (z.widths k h)) refl) in
      let s : every c.segments (λ i. zeros c b (segment_at c i + 15) 1) ≡ true =
      is_true _ (at_every c.segments _ (λ i h. rw (last_byte (segment_at c i) (z.segments i h)) tt)) in
      rw (w, s)

  same-10 : question10 c b ≡ former_question10 c b
  unfolding question10 former_question10
  same-10 = every-same c.segments _ _ (λ i h. rw (z.segments i h, all-rows.0))

-- Where the kinds never fall, a record of kind 1 stands among the widths, so that its layer byte is 0.
module _ (b : List ℕ) (z : LayersZero (counts_of b) b) (two : T (unweighted_question2 b)) where
  known : (r : ℕ) → r < records b → 1 ≤ kind b r
  unfolding unweighted_question2
  known r h =
      let a = (and_T (every (records b) (λ k. in_range 1 5 (kind b k))) _ two).0 in
      (in-range 1 5 (kind b r) (every-at (records b) (λ k. in_range 1 5 (kind b k)) a r h)).0

  in_order : (j k : ℕ) → j ≤ k → k < records b → kind b j ≤ kind b k
  unfolding unweighted_question2
  in_order =
      let a = (and_T (every (records b) (λ k. in_range 1 5 (kind b k))) (every (records b - 1) (λ k. leb (kind b k) (kind b (suc k)))) two).1 in
      never-falls (kind b) (records b) (λ k h. leb→le _ _ (every-at (records b - 1) (λ k. leb (kind b k) (kind b (suc k))) a k h))

  among-widths : (r : ℕ) → r < records b → kind b r ≡ 1 → r < (counts_of b).widths
  unfolding counts_of count_if
  among-widths r h e =
      let f : (k : ℕ) → 0 ≤ k → k < suc r → eqb (kind b k) 1 ≡ true = λ k i l. eq-eqb (kind b k) 1 (omega (arith, e, known k (omega arith), in_order k r (omega arith) h)) in
      omega (arith, counts_each (λ k. eqb (kind b k) 1) 0 (suc r) (omega arith) f, counts-grow (λ k. eqb (kind b k) 1) (suc r) (records b) h)

  width-of-0 : (r : ℕ) → r < records b → eqb (kind b r) 1 && eqb (width_layer b r) 0 ≡ eqb (kind b r) 1
  width-of-0 r h = go (eqb (kind b r) 1) refl
    where
      go : (t : Bool) → eqb (kind b r) 1 ≡ t → t && eqb (width_layer b r) 0 ≡ t
      go true e = rw (z.widths r (among-widths r h (eqb→eq (kind b r) 1 (rw e tt))))
      go false e = refl

  one-layer : (counts_of b).layer0 ≡ (counts_of b).widths
  unfolding counts_of
  one-layer = counts-alike _ _ (records b) width-of-0

-- A byte past the end of a job is 0.
past_end : (b : List ℕ) (at : ℕ) → length b ≤ at → byte b at ≡ 0
past_end [] at h = refl
past_end (x ∷ b) zero h = absurd (omega (arith, h))
past_end (x ∷ b) (suc at) h = past_end b at (omega (arith, h))

-- Where a job without weight records passes its questions, the records that are counted fill it and the unnamed bytes of its repeaters are zero, so
-- that the layer byte of a segment that there is not is 0 too.
module _ (b : List ℕ) (none : weight_records b ≡ 0) (z : LayersZero (counts_of b) b) (a : Passed (counts_of b) b) where
  every-layer : (i : ℕ) → segment_layer (counts_of b) b i ≡ 0
  every-layer i = go (dec_le (suc i) c.segments) (dec_le (suc i) (c.segments + c.repeaters))
    where
      c : Counts
      c = counts_of b

      go : Dec (suc i ≤ c.segments) → Dec (suc i ≤ c.segments + c.repeaters) → segment_layer c b i ≡ 0
      go (yes h) k = z.segments i h
      go (no h) (yes k) =
          let r = i - c.segments in
          let e : repeater_at c r + 15 ≡ segment_at c i + 15 = omega arith in
          rw e at (((unnamed-only c b).0 a.five).repeaters r (omega arith) 15 (lit≤ tt) (lit< tt))
      go (no h) (no k) = past_end b (segment_at c i + 15) (omega (arith, k, none, counts-fill b (is_true (question1 b) a.one) (is_true (question2 b) a.two)))

  -- a row of a segment's layer is that of the one table
  same_row : (f : ℕ → ℕ) (i k : ℕ) → f (first_row (counts_of b) (segment_layer (counts_of b) b i) + k) ≡ f k
  same_row f i k = rw (every-layer i, (layer-0 (counts_of b)).1, zero-add k)

  -- The net is the former one.
  pub net-as-before : unweighted_net (counts_of b) b ≡ former_net (counts_of b) b
  net-as-before =
      ap₂ with-wires
      (fun_ext (λ i. fun_ext (λ k. ap (λ (r : ℕ). r * segment_length (counts_of b) b i) (same_row (row_resistance b) i k))))
      (fun_ext (λ i. fun_ext (λ k. ap (λ (r : ℕ). r * segment_length (counts_of b) b i) (same_row (row_capacitance b) i k))))
    where
      with-wires : (ℕ → ℕ → ℕ) → (ℕ → ℕ → ℕ) → Net
      with-wires r c =
          record {
            stages = (former_net (counts_of b) b).stages;
            segments = (former_net (counts_of b) b).segments;
            repeaters = (former_net (counts_of b) b).repeaters;
            lowest = (former_net (counts_of b) b).lowest;
            highest = (former_net (counts_of b) b).highest;
            driver_resistance = (former_net (counts_of b) b).driver_resistance;
            gate = (former_net (counts_of b) b).gate;
            output = (former_net (counts_of b) b).output;
            wire_resistance = r;
            wire_capacitance = c;
            parent = (former_net (counts_of b) b).parent;
            sink = (former_net (counts_of b) b).sink;
            weight = (former_net (counts_of b) b).weight;
            site = (former_net (counts_of b) b).site;
          }

-- one question more that is passed, and the others alike, wherever the first two are passed
same_first : (p q t : Bool) (xs ys : List Question) → (T p → T q → (t ≡ true) × (xs ≡ ys))
    → first_no (ask 1 p ∷ ask 2 q ∷ ask 24 t ∷ xs) ≡ first_no (ask 1 p ∷ ask 2 q ∷ ys)
unfolding first_no
same_first false q t xs ys h = refl
same_first true false t xs ys h = refl
same_first true true t xs ys h = let a = h tt tt in rw (a.0, a.1)

-- The questions from 3 on, by those of 3, 4, 5, 7 and 10.
abbrev from_three : List ℕ → (three four five seven ten : Bool) → List Question
from_three b three four five seven ten =
    let c : Counts = counts_of b in
    ask 3 three
    ∷ ask 4 four
    ∷ ask 5 five
    ∷ ask 6 (question6 c b)
    ∷ ask 7 seven
    ∷ ask 8 (question8 c b)
    ∷ ask 9 (question9 c b)
    ∷ ask 10 ten
    ∷ ask 11 (question11 c b)
    ∷ ask 22 (question22 c b)
    ∷ ask 23 (question23 c b)
    ∷ []

-- A job without weight records whose layer bytes are all 0: an operation asks the job's questions and then its own of the net, whichever these are,
-- and gets the number that it gets with the former questions and the former net.
module _ (b : List ℕ) (none : weight_records b ≡ 0) (z : LayersZero (counts_of b) b) where
  asked-as-before : (own : List Question) → first_no (unweighted_questions b ++ own) ≡ first_no (former_questions b ++ own)
  unfolding unweighted_questions former_questions
  asked-as-before own =
      let c : Counts = counts_of b in
      same_first (question1 b) (unweighted_question2 b) (question24 c b)
      (from_three b (question3 c) (unweighted_question4 c b) (unweighted_question5 c b) (question7 c b) (question10 c b) ++ own)
      (from_three b (former_question3 c) (former_question4 c b) (former_question5 c b) (former_question7 c b) (former_question10 c b) ++ own)
      (λ p q. let e = one-layer b z q in (same-24 z e, rw (same-3 z e, same-4 z e, same-5 z e, same-7 z e, same-10 z e)))

  pub numbers-as-before : (own : Net → List Question) → first_no (job_questions b ++ own (net_of b)) ≡ first_no (former_questions b ++ own (former_net (counts_of b) b))
  numbers-as-before own = go (ℕ_discrete (refusal b) 0) ∙ asked-unweighted b none (own former) ∙ asked-as-before (own former)
    where
      former : Net
      former = former_net (counts_of b) b

      go : Dec (refusal b ≡ 0) → first_no (job_questions b ++ own (net_of b)) ≡ first_no (job_questions b ++ own former)
      go (yes e) = ap (λ (net : Net). first_no (job_questions b ++ own net)) (net-unweighted b none ∙ net-as-before b none z (passed b e))
      go (no n) = job-fails b (own (net_of b)) n ∙ sym (job-fails b (own former) n)
