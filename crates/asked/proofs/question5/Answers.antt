-- `asked::question5` meets its contract: the tests of each run, put together, are the definition.
use Rattle.lattice.specs.Lists.{every}
use Rattle.weight_records.specs.Tests.{unnamed_zero}
use Rattle.asked.proofs.OnRun.{of-run, words, zeros}
use Rattle.asked.proofs.Regroup.{question5-by}
use Rattle.asked.proofs.question5.Goals as goal

pub returns : goal.returns
returns c =
    let widths = c.widths-widths.ensures in
    let stages = c.stages-run.ensures in
    question5-by _ _ c.args.all.now.weights_held.counted
    (of-run (zeros 3 1) widths c.bytes_zero-before.ensures)
    (of-run (words 12 0 0) widths c.within-behind.ensures)
    (of-run (zeros 2 2) c.sizes.ensures c.bytes_zero-sizes.ensures)
    (of-run (words 4 0 0) stages c.within-second.ensures)
    (of-run (words 8 0 0) stages c.within-third.ensures)
    (of-run (words 12 0 0) stages c.within-fourth.ensures)
    c.repeaters_zero-repeaters.ensures
    (of-run (λ b s n. every n (unnamed_zero b s)) c.weights.ensures c.unnamed_zero-weights.ensures)
