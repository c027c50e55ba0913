-- `asked::repeaters_zero` meets its contract: three bytes and the two words behind them are the eleven bytes of the definition.
use Rattle.asked.proofs.OnRun.{of-run, words, zeros}
use Rattle.asked.proofs.Regroup.{repeaters-zero-by}
use Rattle.asked.proofs.repeaters_zero.Goals as goal

pub returns : goal.returns
returns c =
    let repeaters = c.repeaters-repeaters.ensures in
    repeaters-zero-by _ _
    (of-run (zeros 5 3) repeaters c.bytes_zero-second.ensures)
    (of-run (words 8 0 0) repeaters c.within-third.ensures)
    (of-run (words 12 0 0) repeaters c.within-fourth.ensures)
