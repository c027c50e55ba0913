-- `asked::question20` meets its contract: the test of each weight record is the definition's.
use mathlib.Core.Path.{refl}
use Rattle.asked.proofs.Regroup.{question20-by}
use Rattle.asked.proofs.question20.Goals as goal

pub returns : goal.returns
returns c =
    let a = c.args.all.now in
    cc (question20-by a.records.counts a.records.bytes.now a.weights_held.counted refl)
