-- `questions::questions_from_1` meets its contract: the first no decides, and where there is none the job has the facts of `Checked`.
use Rattle.std.proofs.Common.{◌≡◌, ℕ, refl, sym, rules, arith}
use Rattle.net.specs.Questions.{first_no, refusal, question10, question11}
use Rattle.net.proofs.Questions.{checked}
use Rattle.segments.specs.Tests.{first_segment, all_fit, all_end}
use Rattle.asked.proofs.Regroup.{question10-by}
use Rattle.asked.proofs.Branches.{question11-by}
use Rattle.questions.specs.Check.{questions_from9, questions_from22}
use Rattle.questions.proofs.Numbers.{yes, no, passes, run-loaded, refused-1, refused-24, few-segments, from-9, run-refuse, run-pass}
use Rattle.questions.proofs.questions_from_1.Goals as goal
use Rattle.questions.proofs.questions_from_1.Goals.{After-segments_fit, After-questions_from_22}

pub returns-in_err-all-clause-number : goal.returns-in_err-all-clause-number
returns-in_err-all-clause-number c =
    let h = refused-1 c.args.bytes.now _ c.in_err-all.ensures.number in
    search (rules, h)

pub returns-in_err-questions_from_24-clause-number : goal.returns-in_err-questions_from_24-clause-number
returns-in_err-questions_from_24-clause-number c =
    let h = refused-24 c.in_ok-all.ensures.begun _ c.in_err-questions_from_24.ensures in
    search (rules, h)

pub link-requires : goal.link-requires
link-requires c =
    let f = few-segments c.in_ok-all.ensures.begun c.in_ok-questions_from_24.ensures in
    (omega arith, omega arith)

pub returns-in_err-require-clause-number : goal.returns-in_err-require-clause-number
unfolding questions_from9
returns-in_err-require-clause-number c =
    let h = from-9 c.in_ok-all.ensures.begun c.in_ok-questions_from_24.ensures (no 9 _ _ c.link.ensures.asked c.in_err-require.ensures) in
    search (rules, h)

-- what is known once the segments are gone through
ten : (c : After-segments_fit) → all_fit c.in_ok-all.all.records.bytes.now c.in_ok-all.all.records.counts (first_segment c.in_ok-all.all.records.counts) c.in_ok-all.all.records.counts.segments ≡ question10 c.in_ok-all.all.records.counts c.in_ok-all.all.records.bytes.now
ten c = question10-by _ _ (rw c.in_ok-all.ensures.begun.bytes (λ i. omega (arith, c.type_inv.bytes i))) refl

eleven : (c : After-segments_fit) → all_end c.in_ok-all.all.records.bytes.now c.link.new.first (first_segment c.in_ok-all.all.records.counts) c.in_ok-all.all.records.counts.segments ≡ question11 c.in_ok-all.all.records.counts c.in_ok-all.all.records.bytes.now
eleven c =
    let l = c.link.ensures.linked (passes _ refl c.in_ok-require.ensures) in
    question11-by _ _ _ (record { nodes = l.nodes; firsts = l.firsts }) refl

pub returns-in_err-segments_fit-clause-number : goal.returns-in_err-segments_fit-clause-number
unfolding questions_from9
returns-in_err-segments_fit-clause-number c =
    let a = (goal.at.returns-in_err-segments_fit-clause-number c).After-segments_fit in
    let h = from-9 c.in_ok-all.ensures.begun c.in_ok-questions_from_24.ensures
    (yes 8 _ c.link.ensures.asked c.in_ok-require.ensures (run-refuse _ _ _ c.segments.ensures (ten a) (eleven a) _ _ c.in_err-segments_fit.ensures.number)) in
    search (rules, h)

pub segments_fit-requires-clause-in_bounds : goal.segments_fit-requires-clause-in_bounds
segments_fit-requires-clause-in_bounds c =
    let f = few-segments c.in_ok-all.ensures.begun c.in_ok-questions_from_24.ensures in
    (omega (arith, c.link.ensures.lengths.0), omega (arith, f))

pub questions_from_22-requires-clause-few : goal.questions_from_22-requires-clause-few
questions_from_22-requires-clause-few c = few-segments c.in_ok-all.ensures.begun c.in_ok-questions_from_24.ensures

pub questions_from_22-requires-clause-loaded_to : goal.questions_from_22-requires-clause-loaded_to
questions_from_22-requires-clause-loaded_to c = run-loaded {c = c.in_ok-all.all.records.counts} c.segments.ensures (c.in_ok-segments_fit.ensures.weights refl)

-- what is known once questions 22, 23, 20 and 21 are asked
from-22 : (c : After-questions_from_22) → {n : ℕ} → n ≡ first_no (questions_from22 c.in_ok-all.all.records.counts c.in_ok-all.all.records.bytes.now) → n ≡ refusal c.args.bytes.now
unfolding questions_from9
from-22 c t =
    let a = (goal.at.After-questions_from_22 c).After-segments_fit in
    from-9 c.in_ok-all.ensures.begun c.in_ok-questions_from_24.ensures
    (yes 8 _ c.link.ensures.asked c.in_ok-require.ensures (run-pass _ _ _ c.segments.ensures (ten a) (eleven a) _ c.in_ok-segments_fit.ensures.number t))

pub returns-in_err-questions_from_22-clause-number : goal.returns-in_err-questions_from_22-clause-number
returns-in_err-questions_from_22-clause-number c =
    let h = from-22 (goal.at.returns-in_err-questions_from_22-clause-number c).After-questions_from_22 c.in_err-questions_from_22.ensures.number in
    search (rules, h)

pub invariant_of-result : goal.invariant_of-result
invariant_of-result c =
    let k = c.in_ok-all.ensures.begun in
    let z = from-22 (goal.at.invariant_of-result c).After-questions_from_22 c.in_ok-questions_from_22.ensures.number in
    record { checked = rw (k.counted, k.bytes) (checked c.args.bytes.now (sym z)) }

pub returns-clause-number : goal.returns-clause-number
returns-clause-number c = from-22 (goal.at.returns-clause-number c).After-questions_from_22 c.in_ok-questions_from_22.ensures.number
