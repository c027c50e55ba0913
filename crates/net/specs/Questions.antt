-- The questions 1 to 11 and 20 to 24, each asked of the whole job, and the first whose answer is no: the section 'The questions' of the specification.
-- From question 24 on, which is asked after 2, `c` is the counts of the job's records.
use Rattle.std.specs.Prelude.{Bool, cond, not, ◌&&◌, ◌||◌, List, [], ◌∷◌, ℕ, suc, ◌+◌, ◌-◌, ◌%◌, leb, ltb, eqb, length}
use Rattle.lattice.specs.Lists.{every, some}
use Rattle.net.specs.declared.Counts.{Counts}
use Rattle.net.specs.Job.{byte, records, kind, counts_of, weight_records, width_at, width_layer, widths_of, first_row, size_at, stage_at, segment_at, row_resistance, row_capacitance, size_resistance, size_gate, size_output, stage_lowest, stage_highest, segment_parent, segment_sink, segment_length, sink_capacitance, segment_weight, segment_lowest, segment_highest, segment_layer, repeater_at, repeater_segment, repeater_lowest, repeater_highest, weight_at, weight_segment, weight_form, weight_whole}
use Rattle.net.specs.Weights.{counts_as, fraction}

-- Is v from l to h, both included?
abbrev pub in_range : ℕ → ℕ → ℕ → Bool
in_range l h v = leb l v && leb v h

-- 1. Is the length above 0 and a multiple of 16?
unfoldable pub question1 : List ℕ → Bool
question1 b = ltb 0 (length b) && eqb (◌%◌ (length b) 16) 0

-- 2. Is every kind 1 to 6, never falling?
unfoldable pub question2 : List ℕ → Bool
question2 b = every (records b) (λ r. in_range 1 6 (kind b r)) && every (records b - 1) (λ r. leb (kind b r) (kind b (suc r)))

-- 24. Is every layer byte 0 or 1, does the layer never fall from one width to the next, and has layer 1 a width where a segment names it?
unfoldable pub question24 : Counts → List ℕ → Bool
question24 c b =
    every c.widths (λ k. in_range 0 1 (width_layer b k))
    && (every c.segments (λ i. in_range 0 1 (segment_layer c b i))
    && (every (c.widths - 1) (λ k. leb (width_layer b k) (width_layer b (suc k)))
    && every c.segments (λ i. not (eqb (segment_layer c b i) 1) || ltb 0 (widths_of c 1))))

-- 3. Is each kind's count in its range, that of widths in each layer? That of weight records has none.
unfoldable pub question3 : Counts → Bool
question3 c =
    in_range 1 8 (widths_of c 0)
    && (in_range 0 8 (widths_of c 1)
    && (in_range 1 16 c.sizes
    && (in_range 1 4 c.stages
    && (in_range 1 64 c.segments
    && in_range 0 8 c.repeaters))))

module _ (c : Counts) (b : List ℕ) where
  -- 4. Do numbers count from 0 in each of the kinds 1 to 5, those of widths in each layer, and does byte 1 of weight records strictly rise?
  unfoldable pub question4 : Bool
  question4 =
      every 2 (λ l. every (widths_of c l) (λ k. eqb (byte b (width_at (first_row c l + k) + 1)) k))
      && (every c.sizes (λ k. eqb (byte b (size_at c k + 1)) k)
      && (every c.stages (λ s. eqb (byte b (stage_at c s + 1)) s)
      && (every c.segments (λ i. eqb (byte b (segment_at c i + 1)) i)
      && (every c.repeaters (λ r. eqb (byte b (repeater_at c r + 1)) r)
      && every (weight_records b - 1) (λ w. ltb (weight_segment c b w) (weight_segment c b (suc w)))))))

  -- Are the n bytes from `at` on zero?
  unfoldable pub zeros : ℕ → ℕ → Bool
  zeros at n = every n (λ i. eqb (byte b (at + i)) 0)

  -- Are the unnamed bytes of weight record w zero? Bytes 4 to 7 are named in form 1 alone, bytes 8 to 15 in form 2 alone.
  unfoldable pub weight_zeros : ℕ → Bool
  weight_zeros w =
      zeros (weight_at c w + 3) 1
      && ((eqb (weight_form c b w) 1 || zeros (weight_at c w + 4) 4) && (eqb (weight_form c b w) 2 || zeros (weight_at c w + 8) 8))

  -- 5. Are all unnamed bytes zero?
  unfoldable pub question5 : Bool
  question5 =
      every c.widths (λ k. zeros (width_at k + 3) 1 && zeros (width_at k + 12) 4)
      && (every c.sizes (λ k. zeros (size_at c k + 2) 2)
      && (every c.stages (λ s. zeros (stage_at c s + 4) 12)
      && (every c.repeaters (λ r. zeros (repeater_at c r + 5) 11)
      && every (weight_records b) weight_zeros)))

  -- 6. Are the values of kinds 1 and 2 in range?
  unfoldable pub question6 : Bool
  question6 =
      every c.widths (λ k. in_range 1 100 (row_resistance b k) && in_range 1 100 (row_capacitance b k))
      && every c.sizes
      (λ k. in_range 1 100000 (size_resistance c b k) && (in_range 1 100000 (size_gate c b k) && in_range 0 100000 (size_output c b k)))

  -- 7. In each table, that of each layer and that of the driver sizes, does resistance strictly fall, and do width capacitance and gate
  -- capacitance strictly rise?
  unfoldable pub question7 : Bool
  question7 =
      every 2
      (λ l. every (widths_of c l - 1)
      (λ k. ltb (row_resistance b (first_row c l + suc k)) (row_resistance b (first_row c l + k))
      && ltb (row_capacitance b (first_row c l + k)) (row_capacitance b (first_row c l + suc k))))
      && every (c.sizes - 1)
      (λ k. ltb (size_resistance c b (suc k)) (size_resistance c b k) && ltb (size_gate c b k) (size_gate c b (suc k)))

  -- 8. Is every stage's lowest ≤ highest < count of sizes, with both equal for stage 0?
  unfoldable pub question8 : Bool
  question8 =
      every c.stages (λ s. leb (stage_lowest c b s) (stage_highest c b s) && ltb (stage_highest c b s) c.sizes)
      && eqb (stage_lowest c b 0) (stage_highest c b 0)

  -- 9. Is each parent byte at most the segment's own number?
  unfoldable pub question9 : Bool
  question9 = every c.segments (λ i. leb (segment_parent c b i) i)

  -- Are sink capacitance and weight of segment i zero if its sink byte is 0?
  unfoldable pub sink_or_zero : ℕ → Bool
  sink_or_zero i = not (eqb (segment_sink c b i) 0) || (eqb (sink_capacitance c b i) 0 && eqb (segment_weight c b i) 0)

  -- 10. Are segment fields in range, capacitance and weight 0 where there is no sink, and lowest ≤ highest < count of widths of its layer?
  unfoldable pub question10 : Bool
  question10 =
      every c.segments
      (λ i. in_range 0 1 (segment_sink c b i)
      && (in_range 1 1000 (segment_length c b i)
      && (in_range 0 100000 (sink_capacitance c b i)
      && (in_range 0 255 (segment_weight c b i)
      && (sink_or_zero i
      && (leb (segment_lowest c b i) (segment_highest c b i) && ltb (segment_highest c b i) (widths_of c (segment_layer c b i))))))))

  -- Has segment i branches?
  unfoldable pub has_branches : ℕ → Bool
  has_branches i = some c.segments (λ j. eqb (segment_parent c b j) (suc i))

  -- 11. Has every segment without branches a sink?
  unfoldable pub question11 : Bool
  question11 = every c.segments (λ i. not (eqb (segment_sink c b i) 0) || has_branches i)

  -- 22. Is the segment of every repeater there, has it branches, and do the segment numbers strictly rise?
  unfoldable pub question22 : Bool
  question22 =
      every c.repeaters (λ r. ltb (repeater_segment c b r) c.segments && has_branches (repeater_segment c b r))
      && every (c.repeaters - 1) (λ r. ltb (repeater_segment c b r) (repeater_segment c b (suc r)))

  -- 23. Is every repeater's lowest ≤ highest < count of sizes?
  unfoldable pub question23 : Bool
  question23 = every c.repeaters (λ r. leb (repeater_lowest c b r) (repeater_highest c b r) && ltb (repeater_highest c b r) c.sizes)

  -- 20. Is the segment of every weight record there, has it a sink, is the form at most 2, and a whole number at most 255?
  unfoldable pub question20 : Bool
  question20 =
      every (weight_records b)
      (λ w. ltb (weight_segment c b w) c.segments
      && (not (eqb (segment_sink c b (weight_segment c b w)) 0)
      && (leb (weight_form c b w) 2 && (not (eqb (weight_form c b w) 1) || leb (weight_whole c b w) 255))))

  -- 21. Is 256 times each fraction a whole number from 0 to 255?
  unfoldable pub question21 : Bool
  question21 = every (weight_records b) (λ w. not (eqb (weight_form c b w) 2) || some 256 (counts_as (fraction c b w)))

-- A question's number, and whether its answer is yes.
pub record Question : Type 0 where
  pub number : ℕ
  pub passed : Bool

-- The number of the first question whose answer is no; 0 where every answer is yes.
unfoldable pub first_no : List Question → ℕ
first_no [] = 0
first_no (q ∷ qs) = cond q.passed (first_no qs) q.number

abbrev pub ask : ℕ → Bool → Question
ask n answer = record { number = n; passed = answer }

-- The questions that every operation asks first.
unfoldable pub job_questions : List ℕ → List Question
job_questions b =
    let c : Counts = counts_of b in
    ask 1 (question1 b)
    ∷ ask 2 (question2 b)
    ∷ ask 24 (question24 c b)
    ∷ ask 3 (question3 c)
    ∷ ask 4 (question4 c b)
    ∷ ask 5 (question5 c b)
    ∷ ask 6 (question6 c b)
    ∷ ask 7 (question7 c b)
    ∷ ask 8 (question8 c b)
    ∷ ask 9 (question9 c b)
    ∷ ask 10 (question10 c b)
    ∷ ask 11 (question11 c b)
    ∷ ask 22 (question22 c b)
    ∷ ask 23 (question23 c b)
    ∷ ask 20 (question20 c b)
    ∷ ask 21 (question21 c b)
    ∷ []

-- The number of the first of them that a job fails; 0 where it passes all.
unfoldable pub refusal : List ℕ → ℕ
refusal b = first_no (job_questions b)
