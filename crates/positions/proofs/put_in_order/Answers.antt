-- `positions::put_in_order` meets its contract: the loop has the repeaters passed, and all that stands before them.
use Rattle.std.proofs.Common.{arith}
use Rattle.net.proofs.Questions.{ordered}
use Rattle.positions.proofs.Nodes.{passing_step}
use Rattle.positions.proofs.put_in_order.Goals as goal

pub loop-r-preserved : goal.loop-r-preserved
loop-r-preserved c =
    rw (c.put.ensures.order, c.put.ensures.position) (passing_step _ (ordered c.args.job.now.checked) c.loop-r.invariant (omega arith) _ (omega (arith, c.site.ensures)) _ _ c.put_run.ensures)
