-- `positions::arrange` meets its contract: the loop has the nodes of the positions passed.
use Rattle.std.proofs.Common.{arith}
use Rattle.positions.proofs.Nodes.{all-placing, order-among}
use Rattle.positions.proofs.arrange.Goals as goal

pub hangs_at-requires-clause-positions_of : goal.hangs_at-requires-clause-positions_of
hangs_at-requires-clause-positions_of c = all-placing c.args.job.now.checked c.put_in_order.ensures

pub hangs_at-requires-clause-p_bound : goal.hangs_at-requires-clause-p_bound
hangs_at-requires-clause-p_bound c = order-among c.args.job.now.checked c.put_in_order.ensures c.loop-t.t (omega arith)

pub returns-clause-order : goal.returns-clause-order
returns-clause-order c =
    let put = c.put_in_order.ensures in
    record { long = put.long; held = put.ordered }

pub returns-clause-position : goal.returns-clause-position
returns-clause-position c = all-placing c.args.job.now.checked c.put_in_order.ensures

pub returns-clause-hangs : goal.returns-clause-hangs
returns-clause-hangs c =
    let done = c.loop-t.invariant in
    record { long = done.long; held = λ t h. done.held t (omega arith) }
