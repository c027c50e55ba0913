-- `job::is_driver` meets its contract: what wraps round is above all segments.
use Rattle.std.proofs.Common.{arith}
use Rattle.job.proofs.Ranges.{driver-test}
use Rattle.job.proofs.is_driver.Goals as goal

pub returns : goal.returns
returns c =
    let b = c in
    driver-test b.args.counts b.args.p _ (omega arith) (omega arith) (omega arith) (omega arith) (omega (arith, c.requires))
