-- The questions and the net as they are without weight records: a job that has none gets the number that it gets without them, and has that net. None of
-- these is a definition of the library.
use mathlib.Core.Path.{◌≡◌, ◌∙◌, refl, ap, fun_ext}
use mathlib.Core.Bool.{Bool, true, false, ◌&&◌, and-true, true≢false}
use mathlib.Core.List.{List, [], ◌∷◌, ◌++◌}
use Prim.Native.Nat.{ℕ, zero, suc, ◌+◌, ◌-◌, ◌≤◌, ◌<◌}
use native.Mathlib.Decide.{ℕ_discrete, dec_le}
use native.Mathlib.Omega.{arith}
use borrow.Author.Tests.{le-leb, lt-leb}
use lib.Dec.{leb, ltb, eqb}
use Rattle.lattice.specs.Lists.{every}
use Rattle.lattice.proofs.Every.{every-same}
use Rattle.net.specs.declared.Counts.{Counts}
use Rattle.net.specs.Job.{byte, records, kind, count_if, counts_of, weight_records, width_at, widths_of, first_row, size_at, stage_at, segment_at, repeater_at, segment_weight, weight_segment}
use Rattle.net.specs.Weights.{last_at, sink_weight}
use Rattle.net.specs.Net.{Net, net_by, net_of}
use Rattle.net.specs.Questions.{in_range, question1, question2, question24, question3, question4, zeros, weight_zeros, question5, question6, question7, question8, question9, question10, question11, question22, question23, question20, question21, Question, ask, first_no, job_questions}

-- 2, without. Is every kind 1 to 5, never falling?
unfoldable pub unweighted_question2 : List ℕ → Bool
unweighted_question2 b = every (records b) (λ r. in_range 1 5 (kind b r)) && every (records b - 1) (λ r. leb (kind b r) (kind b (suc r)))

module _ (c : Counts) (b : List ℕ) where
  -- 4, without. Do numbers count from 0 in each kind, those of widths in each layer?
  unfoldable pub unweighted_question4 : Bool
  unweighted_question4 =
      every 2 (λ l. every (widths_of c l) (λ k. eqb (byte b (width_at (first_row c l + k) + 1)) k))
      && (every c.sizes (λ k. eqb (byte b (size_at c k + 1)) k)
      && (every c.stages (λ s. eqb (byte b (stage_at c s + 1)) s)
      && (every c.segments (λ i. eqb (byte b (segment_at c i + 1)) i)
      && every c.repeaters (λ r. eqb (byte b (repeater_at c r + 1)) r))))

  -- 5, without. Are all unnamed bytes zero?
  unfoldable pub unweighted_question5 : Bool
  unweighted_question5 =
      every c.widths (λ k. zeros c b (width_at k + 3) 1 && zeros c b (width_at k + 12) 4)
      && (every c.sizes (λ k. zeros c b (size_at c k + 2) 2)
      && (every c.stages (λ s. zeros c b (stage_at c s + 4) 12)
      && every c.repeaters (λ r. zeros c b (repeater_at c r + 5) 11)))

  -- The net with these weights.
  abbrev weighing : (ℕ → ℕ) → Net
  weighing f =
      record {
        stages = (net_by c b).stages;
        segments = (net_by c b).segments;
        repeaters = (net_by c b).repeaters;
        lowest = (net_by c b).lowest;
        highest = (net_by c b).highest;
        driver_resistance = (net_by c b).driver_resistance;
        gate = (net_by c b).gate;
        output = (net_by c b).output;
        wire_resistance = (net_by c b).wire_resistance;
        wire_capacitance = (net_by c b).wire_capacitance;
        parent = (net_by c b).parent;
        sink = (net_by c b).sink;
        weight = f;
        site = (net_by c b).site;
      }

  -- The net without: the weight of a sink is its segment's own byte.
  abbrev pub unweighted_net : Net
  unweighted_net = weighing (segment_weight c b)

-- The questions of a job, without.
unfoldable pub unweighted_questions : List ℕ → List Question
unweighted_questions b =
    let c : Counts = counts_of b in
    ask 1 (question1 b)
    ∷ ask 2 (unweighted_question2 b)
    ∷ ask 24 (question24 c b)
    ∷ ask 3 (question3 c)
    ∷ ask 4 (unweighted_question4 c b)
    ∷ ask 5 (unweighted_question5 c b)
    ∷ ask 6 (question6 c b)
    ∷ ask 7 (question7 c b)
    ∷ ask 8 (question8 c b)
    ∷ ask 9 (question9 c b)
    ∷ ask 10 (question10 c b)
    ∷ ask 11 (question11 c b)
    ∷ ask 22 (question22 c b)
    ∷ ask 23 (question23 c b)
    ∷ []

-- What is counted nowhere is nowhere.
none-counted : (f : ℕ → Bool) (n : ℕ) → count_if f n ≡ 0 → (k : ℕ) → k < n → f k ≡ false
unfolding count_if
none-counted f zero e k h = absurd (omega arith)
none-counted f (suc n) e k h = go (f n) refl (ℕ_discrete k n) (λ d l. none-counted f n d k l)
  where
    go : (t : Bool) → f n ≡ t → Dec (k ≡ n) → (count_if f n ≡ 0 → k < n → f k ≡ false) → f k ≡ false
    go true d m r = absurd (omega (arith, rw d at e))
    go false d (yes m) r = rw m d
    go false d (no m) r = let z = rw d at e in r (omega (arith, z)) (omega arith)

-- A kind other than 6 is one of 1 to 6 exactly where it is one of 1 to 5.
not-six : (k : ℕ) → eqb k 6 ≡ false → in_range 1 6 k ≡ in_range 1 5 k
not-six k e = ap (λ (t : Bool). leb 1 k && t) (go (dec_le k 5) (ℕ_discrete k 6))
  where
    go : Dec (k ≤ 5) → Dec (k ≡ 6) → leb k 6 ≡ leb k 5
    go (yes h) m = rw (le-leb k 6 (omega arith), le-leb k 5 h)
    go (no h) (yes m) = absurd (true≢false (rw m at e))
    go (no h) (no m) = rw (lt-leb k 6 (omega arith), lt-leb k 5 (omega arith))

-- A test of none says nothing.
of_none : (t : Bool) (n : ℕ) (f : ℕ → Bool) → n ≡ 0 → t && every n f ≡ t
unfolding every
of_none t n f e = rw e (and-true t)

-- A job without weight records.
module _ (b : List ℕ) (none : weight_records b ≡ 0) where
  same-2 : question2 b ≡ unweighted_question2 b
  unfolding question2 unweighted_question2
  same-2 =
      ap (λ (t : Bool). t && every (records b - 1) (λ r. leb (kind b r) (kind b (suc r))))
      (every-same (records b) _ _ (λ r h. not-six (kind b r) (none-counted (λ z. eqb (kind b z) 6) (records b) none r h)))

  module _ (c : Counts) where
    same-4 : question4 c b ≡ unweighted_question4 c b
    unfolding question4 unweighted_question4
    same-4 = rw (of_none (every c.repeaters (λ r. eqb (byte b (repeater_at c r + 1)) r)) (weight_records b - 1) (λ w. ltb (weight_segment c b w) (weight_segment c b (suc w))) (rw none))

    same-5 : question5 c b ≡ unweighted_question5 c b
    unfolding question5 unweighted_question5
    same-5 = rw (of_none (every c.repeaters (λ r. zeros c b (repeater_at c r + 5) 11)) (weight_records b) (weight_zeros c b) none)

    passes-20 : question20 c b ≡ true
    unfolding question20 every
    passes-20 = rw none

    passes-21 : question21 c b ≡ true
    unfolding question21 every
    passes-21 = rw none

    own-byte : (i : ℕ) → sink_weight c b i ≡ segment_weight c b i
    unfolding sink_weight last_at
    own-byte i = rw none

  -- The net is the one without.
  pub net-unweighted : net_of b ≡ unweighted_net (counts_of b) b
  net-unweighted = ap (weighing (counts_of b) b) (fun_ext (own-byte (counts_of b)))

  -- Whatever an operation asks after the job's questions, the number is the one without.
  pub asked-unweighted : (own : List Question) → first_no (job_questions b ++ own) ≡ first_no (unweighted_questions b ++ own)
  unfolding job_questions unweighted_questions first_no
  asked-unweighted own = let c : Counts = counts_of b in rw (same-2, same-4 c, same-5 c, passes-20 c, passes-21 c)

  pub numbers-unweighted : (own : Net → List Question) → first_no (job_questions b ++ own (net_of b)) ≡ first_no (unweighted_questions b ++ own (unweighted_net (counts_of b) b))
  numbers-unweighted own = ap (λ (net : Net). first_no (job_questions b ++ own net)) net-unweighted ∙ asked-unweighted (own (unweighted_net (counts_of b) b))
