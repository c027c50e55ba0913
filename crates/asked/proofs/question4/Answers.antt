-- `asked::question4` meets its contract: the tests of each run, put together, are the definition.
use mathlib.Core.Path.{refl}
use Rattle.asked.proofs.Regroup.{question4-by}
use Rattle.asked.proofs.question4.Goals as goal

pub returns : goal.returns
returns c =
    let a = c.args.all.now in
    cc (question4-by a.records.counts a.records.bytes.now a.weights_held.counted refl refl refl refl refl refl refl)
