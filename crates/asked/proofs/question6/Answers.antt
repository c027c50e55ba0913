-- `asked::question6` meets its contract: the tests of each run, put together, are the definition.
use Rattle.asked.proofs.OnRun.{of-run, words}
use Rattle.asked.proofs.Regroup.{question6-by}
use Rattle.asked.proofs.question6.Goals as goal

pub returns : goal.returns
returns c =
    let widths = c.widths-widths.ensures in
    let sizes = c.sizes-sizes.ensures in
    question6-by _ _
    (of-run (words 4 1 100) widths c.within-resistances.ensures)
    (of-run (words 8 1 100) widths c.within-capacitances.ensures)
    (of-run (words 4 1 100000) sizes c.within-drivers.ensures)
    (of-run (words 8 1 100000) sizes c.within-gates.ensures)
    (of-run (words 12 0 100000) sizes c.within-outputs.ensures)
