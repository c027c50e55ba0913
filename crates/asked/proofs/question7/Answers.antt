-- `asked::question7` meets its contract: the tests of each run, put together, are the definition.
use mathlib.Core.Path.{refl}
use Rattle.asked.proofs.Regroup.{question7-by}
use Rattle.asked.proofs.question7.Goals as goal

pub returns : goal.returns
returns c =
    let a = c.args.records.now in
    cc (question7-by a.counts a.bytes.now refl refl refl)
