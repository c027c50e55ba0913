-- `questions::count_records` meets its contract: the records that question 2 passes are counted, and those that are not counted by kind are the weights.
use Rattle.std.proofs.Common.{refl, ap, ◌∙◌, arith}
use Rattle.net.specs.Job.{count}
use Rattle.kinds.proofs.Ends.{kinds-known, counts-weights}
use Rattle.questions.proofs.Numbers.{passes, counted-held, counted-all, weights-there}
use Rattle.questions.proofs.count_records.Goals as goal

pub count-counts-requires-clause-kinds : goal.count-counts-requires-clause-kinds
count-counts-requires-clause-kinds c = kinds-known _ (omega arith) (passes _ c.question2.ensures c.in_ok-require-2.ensures)

pub invariant_of-result : goal.invariant_of-result
invariant_of-result c = record { held = counted-held c.args.bytes.now c.args.n (omega arith) c.count-counts.ensures }

pub invariant_of-result-2 : goal.invariant_of-result-2
invariant_of-result-2 c =
    let k = kinds-known c.args.bytes.now {n = c.args.n} (omega arith) (passes _ c.question2.ensures c.in_ok-require-2.ensures) in
    let n = counts-weights c.find_ends-ends.ensures k ∙ ap (count c.args.bytes.now 6) c.requires in
    record { weights_held = weights-there _ (counted-all _ _ c.requires c.count-counts.ensures) n }

pub returns-clause-begun : goal.returns-clause-begun
returns-clause-begun c = record {
  bytes = refl;
  one = passes _ c.question1.ensures c.in_ok-require.ensures;
  two = passes _ c.question2.ensures c.in_ok-require-2.ensures;
  counted = counted-all _ _ c.requires c.count-counts.ensures;
}
