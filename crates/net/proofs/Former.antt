-- Definitions as they were before a change, which numbers stayed, and what the others became. None of them is a definition of the library.
use mathlib.Core.Path.{◌≡◌, ◌∙◌, refl, sym}
use mathlib.Core.Logic.{◌⊎◌, inl, inr, ⊎_elim}
use mathlib.Core.Bool.{Bool, true, false, ◌&&◌, and_assoc, and-false}
use mathlib.Core.List.{List, [], ◌∷◌, ◌++◌, map}
use Prim.Native.Nat.{ℕ, ◌+◌, ◌<◌}
use native.Mathlib.Decide.{ℕ_discrete}
use native.Mathlib.Omega.{arith}
use borrow.Author.Tests.{ne_eqb}
use lib.Dec.{T, leb, le→leb}
use lib.ListN.{set}
use Rattle.lattice.specs.Lists.{at, every}
use Rattle.lattice.proofs.ListLaws.{is_true, at_every, every-or}
use Rattle.lattice.proofs.Every.{every-fails}
use Rattle.net.specs.declared.Counts.{Counts}
use Rattle.net.specs.Job.{count_if, counts_of, weight_records, width_at, widths_of, first_row, size_at, stage_at, repeater_at, segment_sink, sink_capacitance, segment_weight}
use Rattle.net.specs.Net.{places, net_of}
use Rattle.net.specs.Sizings.{lower_bound, upper_bound, room}
use Rattle.net.specs.Questions.{question1, question2, question24, question3, question4, zeros, weight_zeros, question5, question6, question7, question8, question9, sink_or_zero, question10, Question, ask, first_no, job_questions, refusal}
use Rattle.net.specs.Answers.{reply_length, size_number, little_endian}
use Rattle.net.specs.Starred.{J1}
use Rattle.net.proofs.Answers.{first_no-yes, first_no-no, job-passes, job-fails}
use Rattle.net.proofs.Demands.{bounds-never-cross}
use Rattle.net.proofs.Promises.{size-fails, size-passes}
use Rattle.net.proofs.Unnamed.{UnnamedZero, unnamed-only}

-- The number of size with question 13, which it once asked.
module _ (job : List ℕ) (n : ℕ) where
  -- 13. Is the lower bound at most the upper at each place?
  abbrev question13 : Bool
  question13 = every (places (net_of job)) (λ p. leb (at (lower_bound (net_of job)) p) (at (upper_bound (net_of job)) p))

  abbrev own : List Question
  own = ask 12 (leb (reply_length (net_of job)) n) ∷ ask 13 question13 ∷ ask 14 (leb (room (net_of job)) 65536) ∷ []

  unfoldable pub former_size_number : ℕ
  former_size_number = first_no (job_questions job ++ own)

  question13-passes : refusal job ≡ 0 → question13 ≡ true
  question13-passes e = is_true _ (at_every (places (net_of job)) _ (λ p h. le→leb _ _ (bounds-never-cross job e p h)))

  -- Without the question every job and every buffer gets the number that it got with it.
  pub same_number : former_size_number ≡ size_number job n
  unfolding former_size_number first_no
  same_number = go (ℕ_discrete (refusal job) 0)
    where
      go : Dec (refusal job ≡ 0) → first_no (job_questions job ++ own) ≡ size_number job n
      go (yes e) = job-passes job own e ∙ rw (question13-passes e) (sym (size-passes job n e))
      go (no z) = job-fails job own z ∙ sym (size-fails job n z)

-- Question 5 with the clause that it once had, which question 10 has too: no capacitance and no weight where there is no sink. The unnamed bytes are
-- those of today.
module _ (c : Counts) (b : List ℕ) where
  -- 5, with the clause. Are all unnamed bytes zero, and the sink capacitance and weight of every segment whose sink byte is 0?
  unfoldable pub question5_with_clause : Bool
  question5_with_clause =
      every c.widths (λ k. zeros c b (width_at k + 3) 1 && zeros c b (width_at k + 12) 4)
      && (every c.sizes (λ k. zeros c b (size_at c k + 2) 2)
      && (every c.stages (λ s. zeros c b (stage_at c s + 4) 12)
      && (every c.repeaters (λ r. zeros c b (repeater_at c r + 5) 11)
      && (every (weight_records b) (weight_zeros c b)
      && every c.segments (sink_or_zero c b)))))

  -- it is question 5 and the clause
  clause : question5_with_clause ≡ question5 c b && every c.segments (sink_or_zero c b)
  unfolding question5_with_clause question5
  clause = rw (and_assoc, and_assoc, and_assoc, and_assoc)

-- The questions of a job with the clause: that question in the place of question 5, the sixth.
unfoldable pub questions_with_clause : List ℕ → List Question
questions_with_clause b = set (job_questions b) 5 (ask 5 (question5_with_clause (counts_of b) b))

-- A capacitance or a weight at a segment whose sink byte is 0.
pub record StraySink (c : Counts) (b : List ℕ) : Type 0 where
  pub segment : ℕ
  pub held : segment < c.segments
  pub sinkless : segment_sink c b segment ≡ 0
  pub figure : (0 < sink_capacitance c b segment) ⊎ (0 < segment_weight c b segment)

-- A job that fails question 5 with the clause for this alone: it passes 1, 2, 24, 3 and 4, and its unnamed bytes are zero.
pub record StraySinkAlone (job : List ℕ) : Type 0 where
  pub one : T (question1 job)
  pub two : T (question2 job)
  pub layers : T (question24 (counts_of job) job)
  pub three : T (question3 (counts_of job))
  pub four : T (question4 (counts_of job) job)
  pub unnamed : UnnamedZero (counts_of job) job
  pub stray : StraySink (counts_of job) job

-- Five such jobs, each J1 with its sink byte, at 67, taken away: with a width resistance of 0 (at 4), with equal width resistances (at 20), with
-- the lowest index of its stage above the highest (at 50), with its segment hanging on itself (at 66), and with all else as in J1.
abbrev sinkless : List ℕ
sinkless = set J1 67 0

abbrev stray_jobs : List (List ℕ)
stray_jobs = set sinkless 4 0 ∷ set sinkless 20 4 ∷ set sinkless 50 1 ∷ set sinkless 66 1 ∷ sinkless ∷ []

pub are-6-to-10 : map refusal stray_jobs ≡ 6 ∷ 7 ∷ 8 ∷ 9 ∷ 10 ∷ []
unfolding every count_if counts_of widths_of first_row question1 question2 question24 question3 question4 zeros question5 question6 question7 question8 question9 sink_or_zero question10 first_no job_questions refusal little_endian
are-6-to-10 = refl

pub all-were-5 : map (λ job. first_no (questions_with_clause job)) stray_jobs ≡ 5 ∷ 5 ∷ 5 ∷ 5 ∷ 5 ∷ []
unfolding every count_if counts_of widths_of first_row question1 question2 question24 question3 question4 zeros sink_or_zero question5_with_clause first_no job_questions questions_with_clause little_endian
all-were-5 = refl

module _ {c : Counts} {b : List ℕ} where
  -- at a stray sink the clause fails, in question 5 and in question 10
  stray-fails : (y : StraySink c b) → sink_or_zero c b y.segment ≡ false
  unfolding sink_or_zero
  stray-fails y = go y.figure
    where
      go : (0 < sink_capacitance c b y.segment) ⊎ (0 < segment_weight c b y.segment) → sink_or_zero c b y.segment ≡ false
      go (inl l) = rw (y.sinkless, ne_eqb (sink_capacitance c b y.segment) 0 (λ e. omega (arith, l, e)))
      go (inr l) = rw (y.sinkless, ne_eqb (segment_weight c b y.segment) 0 (λ e. omega (arith, l, e)), and-false)

  clause-fails : StraySink c b → every c.segments (sink_or_zero c b) ≡ false
  clause-fails y = every-fails c.segments (sink_or_zero c b) y.segment y.held (stray-fails y)

  question10-fails : StraySink c b → question10 c b ≡ false
  unfolding question10
  question10-fails y = every-fails c.segments _ y.segment y.held (rw (stray-fails y, and-false, and-false, and-false, and-false))

  -- where the clause fails there is such a segment
  stray-found : (i : ℕ) → i < c.segments → (T (sink_or_zero c b i) → ⊥) → StraySink c b
  unfolding sink_or_zero
  stray-found i h n = go (ℕ_discrete (segment_sink c b i) 0) (ℕ_discrete (sink_capacitance c b i) 0) (ℕ_discrete (segment_weight c b i) 0)
    where
      go : Dec (segment_sink c b i ≡ 0) → Dec (sink_capacitance c b i ≡ 0) → Dec (segment_weight c b i ≡ 0) → StraySink c b
      go (no s) d e = absurd (n (rw (ne_eqb (segment_sink c b i) 0 s) tt))
      go (yes s) (no d) e = record { segment = i; held = h; sinkless = s; figure = inl (omega (arith, d)) }
      go (yes s) (yes d) (no e) = record { segment = i; held = h; sinkless = s; figure = inr (omega (arith, e)) }
      go (yes s) (yes d) (yes e) = absurd (n (rw (s, d, e) tt))

-- a clause of question 5 that holds wherever the questions up to 5 pass changes no number
same_first : (p q z r s t u : Bool) (qs : List Question) → (T p → T q → T z → T r → T s → T t → T u)
    → first_no (ask 1 p ∷ ask 2 q ∷ ask 24 z ∷ ask 3 r ∷ ask 4 s ∷ ask 5 t ∷ qs)
    ≡ first_no (ask 1 p ∷ ask 2 q ∷ ask 24 z ∷ ask 3 r ∷ ask 4 s ∷ ask 5 (t && u) ∷ qs)
unfolding first_no
same_first false q z r s t u qs h = refl
same_first true false z r s t u qs h = refl
same_first true true false r s t u qs h = refl
same_first true true true false s t u qs h = refl
same_first true true true true false t u qs h = refl
same_first true true true true true false u qs h = refl
same_first true true true true true true true qs h = refl
same_first true true true true true true false qs h = absurd (h tt tt tt tt tt tt)

module _ (job : List ℕ) where
  abbrev c : Counts
  c = counts_of job

  abbrev six_to_nine : List Question
  six_to_nine = ask 6 (question6 c job) ∷ ask 7 (question7 c job) ∷ ask 8 (question8 c job) ∷ ask 9 (question9 c job) ∷ []

  -- The first of questions 6 to 9 that the job fails, or else 10.
  unfoldable pub six_to_nine_or10 : ℕ
  six_to_nine_or10 = first_no (six_to_nine ++ ask 10 false ∷ [])

  past-4 : StraySinkAlone job → (qs : List Question)
      → first_no (ask 1 (question1 job) ∷ ask 2 (question2 job) ∷ ask 24 (question24 c job) ∷ ask 3 (question3 c) ∷ ask 4 (question4 c job) ∷ qs) ≡ first_no qs
  unfolding first_no
  past-4 a qs = rw (is_true (question1 job) a.one, is_true (question2 job) a.two, is_true (question24 c job) a.layers, is_true (question3 c) a.three, is_true (question4 c job) a.four)

  at-10 : (t : Bool) (qs : List Question) → t ≡ false → first_no (six_to_nine ++ ask 10 t ∷ qs) ≡ six_to_nine_or10
  unfolding six_to_nine_or10 first_no
  at-10 t qs e = rw e

  -- An operation asks the job's questions and then its own, whichever these are.
  module _ (own : List Question) where
    -- With the clause in question 5 a job that fails it for this alone is refused with 5.
    pub was-5 : StraySinkAlone job → first_no (questions_with_clause job ++ own) ≡ 5
    unfolding questions_with_clause job_questions
    was-5 a = past-4 a _ ∙ first_no-no 5 _ (question5_with_clause c job) (rw (clause c job, clause-fails a.stray) (and-false (question5 c job)))

    -- Without it, it is refused with the first of 6 to 9 that it fails, or else with 10.
    pub is-6-to-10 : StraySinkAlone job → first_no (job_questions job ++ own) ≡ six_to_nine_or10
    unfolding job_questions
    is-6-to-10 a = past-4 a _ ∙ first_no-yes 5 _ (question5 c job) (is_true (question5 c job) ((unnamed-only c job).1 a.unnamed)) ∙ at-10 (question10 c job) _ (question10-fails a.stray)

    -- Every other job gets the number that it gets with the clause.
    pub others_same : (StraySinkAlone job → ⊥) → first_no (job_questions job ++ own) ≡ first_no (questions_with_clause job ++ own)
    unfolding job_questions questions_with_clause
    others_same n = rw (clause c job) (same_first _ _ _ _ _ _ _ _ holds)
      where
        holds : T (question1 job) → T (question2 job) → T (question24 c job) → T (question3 c) → T (question4 c job) → T (question5 c job) → T (every c.segments (sink_or_zero c job))
        holds one two layers three four five =
            ⊎_elim
            (λ all. at_every c.segments (sink_or_zero c job) all)
            (λ w. absurd (n record { one = one; two = two; layers = layers; three = three; four = four; unnamed = (unnamed-only c job).0 five; stray = stray-found w.0 w.1 w.2 }))
            (every-or c.segments (sink_or_zero c job))
