-- The number of the first question that fails, found by asking one question after another.
use mathlib.Core.Path.{◌≡◌, ◌∙◌, refl, sym, ap}
use mathlib.Core.Bool.{Bool, true, false, cond}
use mathlib.Core.List.{List, [], ◌∷◌, ◌++◌}
use Prim.Native.Nat.{ℕ, suc, ◌+◌, ◌≤◌}
use native.Mathlib.Nat.{add_assoc, div-add-mod'}
use native.Mathlib.Omega.{arith}
use lib.Dec.{T}
use lib.ListN.{length}
use Rattle.std.specs.Prelude.{⊤}
use Rattle.lattice.proofs.ListLaws.{and_T}
use Rattle.net.specs.declared.Counts.{Counts}
use Rattle.net.specs.Job.{records, counts_of, weight_records, widths_of}
use Rattle.net.specs.Questions.{in_range, question3, question10, question11, Question, ask, first_no, job_questions, refusal}
use Rattle.net.specs.Checked.{Held, WeightsHeld}
use Rattle.net.specs.Weights.{last_at}
use Rattle.net.proofs.Records.{counts-small, layer0-small, weights-held}
use Rattle.net.proofs.Questions.{in-range}
use Rattle.refusal.specs.declared.Refusal.{Refusal}
use Rattle.refusal.specs.Numbers.{number_of}
use Rattle.refusal.proofs.Positive.{number-positive}
use Rattle.kinds.specs.Counted.{counts_to}
use Rattle.segments.specs.Tests.{OwnWeights, first_segment, all_fit, all_end, segments_number}
use Rattle.sinks.specs.Loaded.{LoadedTo}
use Rattle.job.specs.declared.runs.Run.{Run}
use Rattle.job.specs.declared.counted.AllRecords.{AllRecords}
use Rattle.job.specs.RunOf.{RunOf}
use Rattle.questions.specs.Check.{Begun, questions_from1, questions_from9, questions_from22, questions_from24}

-- r is the answer to the question q, the first of those that are left: yes, and a later one decides; or no; or it is the last
pub yes : (m : ℕ) (qs : List Question) {q r : Bool} {n : ℕ} → r ≡ q → 0 ≡ cond r 0 (suc m) → n ≡ first_no qs → n ≡ first_no (ask (suc m) q ∷ qs)
unfolding first_no
yes m qs {r = true} e t h = rw (sym e) h
yes m qs {r = false} e t h = absurd (omega arith)

pub no : (m : ℕ) (qs : List Question) {q r : Bool} (f : Refusal) → r ≡ q → number_of f ≡ cond r 0 m → number_of f ≡ first_no (ask m q ∷ qs)
unfolding first_no
no m qs {r = true} f e t = absurd (omega (arith, number-positive f))
no m qs {r = false} f e t = rw (sym e) t

pub last : (m : ℕ) {q r : Bool} {n : ℕ} → r ≡ q → n ≡ cond r 0 m → n ≡ first_no (ask m q ∷ [])
unfolding first_no
last m {r = true} e t = rw (sym e) t
last m {r = false} e t = rw (sym e) t

-- a question that does not refuse is passed
pub passes : (m : ℕ) {q r : Bool} → r ≡ q → 0 ≡ cond r 0 (suc m) → q ≡ true
passes m {r = true} e t = sym e
passes m {r = false} e t = absurd (omega arith)

-- What question 3 gives.
pub in-counts : (c : Counts) → question3 c ≡ true → (1 ≤ c.stages) × (c.segments ≤ 64)
unfolding question3
in-counts c e =
    let y : T (question3 c) = rw e tt in
    let v = and_T (in_range 1 8 (widths_of c 0)) _ y in
    let w = and_T (in_range 0 8 (widths_of c 1)) _ v.1 in
    let s = and_T (in_range 1 16 c.sizes) _ w.1 in
    let g = and_T (in_range 1 4 c.stages) _ s.1 in
    let i = and_T (in_range 1 64 c.segments) (in_range 0 8 c.repeaters) g.1 in
    ((in-range 1 4 _ g.0).0, (in-range 1 64 _ i.0).1)

-- Records that are counted by kind are there, and where they are all, the counts are those of the job.
pub counted-held : (b : List ℕ) (n : ℕ) {c : Counts} → n ≤ records b → c ≡ counts_to b n → Held c b
counted-held b n h e = rw e record { all = omega (arith, counts-small b n, div-add-mod' (length b) 16); layers = layer0-small b n }

pub counted-all : (b : List ℕ) (n : ℕ) {c : Counts} → n ≡ records b → c ≡ counts_to b n → c ≡ counts_of b
unfolding counts_of
counted-all b n e f = f ∙ ap (counts_to b) e

pub weights-there : (b : List ℕ) {c : Counts} {n : ℕ} → c ≡ counts_of b → n ≡ weight_records b → WeightsHeld c b n
weights-there b e f = rw (e, f) record { counted = refl; there = omega (arith, weights-held b) }

-- The weight bytes of the segments are the weights before any weight record is read.
pub own-loaded : {c : Counts} {b t : List ℕ} → OwnWeights b (c.widths + c.sizes + c.stages) c.segments t → LoadedTo c b 0 t
unfolding last_at
own-loaded {c} o = record { long = o.long; weighs = λ i h. rw (← add_assoc (c.widths + c.sizes) c.stages i) (o.own i h) }

-- The same, where they are read from the run of the segments.
pub run-loaded : {c : Counts} {b t : List ℕ} {r : Run} → RunOf b (first_segment c) c.segments r → OwnWeights r.bytes.now r.start r.count t → LoadedTo c b 0 t
run-loaded {c} {b} {t} o w =
    let own : OwnWeights b (first_segment c) c.segments t = rw (o.bytes, o.start, o.count) at w in
    own-loaded {c = c} own

-- The first no among some questions is that of all.
found : (qs rs : List Question) (f : Refusal) → number_of f ≡ first_no qs → number_of f ≡ first_no (qs ++ rs)
unfolding first_no
found [] rs f e = absurd (omega (arith, number-positive f))
found (q ∷ qs) rs f e = go q.passed (found qs rs f) e
  where
    go : (p : Bool) → (number_of f ≡ first_no qs → number_of f ≡ first_no (qs ++ rs)) → number_of f ≡ cond p (first_no qs) q.number → number_of f ≡ cond p (first_no (qs ++ rs)) q.number
    go true rest h = rest h
    go false rest h = h

-- All of them are passed, and then those behind them decide.
abbrev Passed : List Question → Type 0
Passed [] = ⊤
Passed (q ∷ qs) = (q.passed ≡ true) × Passed qs

passed-on : (qs rs : List Question) {n : ℕ} → Passed qs → n ≡ first_no rs → n ≡ first_no (qs ++ rs)
unfolding first_no
passed-on [] rs p h = h
passed-on (q ∷ qs) rs p h = rw p.0 (passed-on qs rs p.1 h)

-- Their numbers are above 0, so they are passed where no number is told.
abbrev Numbered : List Question → Type 0
Numbered [] = ⊤
Numbered (q ∷ qs) = (1 ≤ q.number) × Numbered qs

all-passed : (qs : List Question) → Numbered qs → 0 ≡ first_no qs → Passed qs
unfolding first_no
all-passed [] p e = tt
all-passed (q ∷ qs) p e = go q.passed refl (all-passed qs p.1) e
  where
    go : (t : Bool) → q.passed ≡ t → (0 ≡ first_no qs → Passed qs) → ◌≡◌ {A = ℕ} 0 (cond t (first_no qs) q.number) → (q.passed ≡ true) × Passed qs
    go true f rest h = (f, rest h)
    go false f rest h = absurd (omega (arith, p.0))

-- a question before the records are counted refuses the job
pub refused-1 : (b : List ℕ) (f : Refusal) → number_of f ≡ first_no (questions_from1 b) → number_of f ≡ refusal b
unfolding first_no refusal job_questions questions_from1 questions_from24 questions_from9 questions_from22
refused-1 b f h = found (questions_from1 b) (questions_from24 (counts_of b) b ++ questions_from9 (counts_of b) b) f h

module _ {b : List ℕ} {a : AllRecords} (k : Begun b a) where
  both : {n : ℕ} → n ≡ first_no (questions_from24 a.records.counts a.records.bytes.now ++ questions_from9 a.records.counts a.records.bytes.now) → n ≡ refusal b
  unfolding first_no refusal job_questions questions_from24 questions_from9 questions_from22
  both h = rw (k.one, k.two) (rw (k.bytes, k.counted) at h)

  -- a question before linking refuses it
  pub refused-24 : (f : Refusal) → number_of f ≡ first_no (questions_from24 a.records.counts a.records.bytes.now) → number_of f ≡ refusal b
  refused-24 f h = both (found (questions_from24 a.records.counts a.records.bytes.now) (questions_from9 a.records.counts a.records.bytes.now) f h)

  -- it passes those
  module _ (h : 0 ≡ first_no (questions_from24 a.records.counts a.records.bytes.now)) where
    passed-24 : Passed (questions_from24 a.records.counts a.records.bytes.now)
    unfolding questions_from24
    passed-24 = all-passed (questions_from24 a.records.counts a.records.bytes.now) (omega arith, (omega arith, (omega arith, (omega arith, (omega arith, (omega arith, (omega arith, tt))))))) h

    pub few-segments : a.records.counts.segments ≤ 64
    unfolding questions_from24
    few-segments = (in-counts a.records.counts passed-24.1.0).1

    pub from-9 : {n : ℕ} → n ≡ first_no (questions_from9 a.records.counts a.records.bytes.now) → n ≡ refusal b
    from-9 t = both (passed-on (questions_from24 a.records.counts a.records.bytes.now) (questions_from9 a.records.counts a.records.bytes.now) passed-24 t)

-- Questions 10 and 11, by the loop over the segments, where those before them pass.
module _ (c : Counts) (b first : List ℕ) (ten : all_fit b c (first_segment c) c.segments ≡ question10 c b)
    (eleven : all_end b first (first_segment c) c.segments ≡ question11 c b) where
  told : segments_number b c first (first_segment c) c.segments ≡ cond (question10 c b) (cond (question11 c b) 0 11) 10
  told = rw (ten, eleven)

  pub segments-refuse : (f : Refusal) (qs : List Question) → number_of f ≡ segments_number b c first (first_segment c) c.segments
      → number_of f ≡ first_no (ask 10 (question10 c b) ∷ ask 11 (question11 c b) ∷ qs)
  unfolding first_no
  segments-refuse f qs h = go (question10 c b) (question11 c b) (h ∙ told)
    where
      go : (p q : Bool) → number_of f ≡ cond p (cond q 0 11) 10 → number_of f ≡ cond p (cond q (first_no qs) 11) 10
      go true true t = absurd (omega (arith, number-positive f))
      go true false t = t
      go false q t = t

  pub segments-pass : {n : ℕ} (qs : List Question) → 0 ≡ segments_number b c first (first_segment c) c.segments → n ≡ first_no qs
      → n ≡ first_no (ask 10 (question10 c b) ∷ ask 11 (question11 c b) ∷ qs)
  unfolding first_no
  segments-pass {n} qs h t = go (question10 c b) (question11 c b) (h ∙ told)
    where
      go : (p q : Bool) → ◌≡◌ {A = ℕ} 0 (cond p (cond q 0 11) 10) → n ≡ cond p (cond q (first_no qs) 11) 10
      go true true u = t
      go true false u = absurd (omega arith)
      go false q u = absurd (omega arith)

-- The same, where the loop is over the run of the segments.
module _ (c : Counts) (b first : List ℕ) {r : Run} (o : RunOf b (first_segment c) c.segments r) (ten : all_fit b c (first_segment c) c.segments ≡ question10 c b)
    (eleven : all_end b first (first_segment c) c.segments ≡ question11 c b) where
  numbered : segments_number r.bytes.now c first r.start r.count ≡ segments_number b c first (first_segment c) c.segments
  numbered = rw (o.bytes, o.start, o.count) refl

  pub run-refuse : (f : Refusal) (qs : List Question) → number_of f ≡ segments_number r.bytes.now c first r.start r.count
      → number_of f ≡ first_no (ask 10 (question10 c b) ∷ ask 11 (question11 c b) ∷ qs)
  run-refuse f qs h = segments-refuse c b first ten eleven f qs (h ∙ numbered)

  pub run-pass : {n : ℕ} (qs : List Question) → 0 ≡ segments_number r.bytes.now c first r.start r.count → n ≡ first_no qs
      → n ≡ first_no (ask 10 (question10 c b) ∷ ask 11 (question11 c b) ∷ qs)
  run-pass qs h t = segments-pass c b first ten eleven qs (h ∙ numbered) t

-- Where the loop finds no fault, the fields of all pass.
pub all-fit : (c : Counts) (b first : List ℕ) → 0 ≡ segments_number b c first (first_segment c) c.segments → all_fit b c (first_segment c) c.segments ≡ true
all-fit c b first = go (all_fit b c (first_segment c) c.segments) (all_end b first (first_segment c) c.segments)
  where
    go : (p q : Bool) → ◌≡◌ {A = ℕ} 0 (cond p (cond q 0 11) 10) → p ≡ true
    go true q u = refl
    go false q u = absurd (omega arith)
