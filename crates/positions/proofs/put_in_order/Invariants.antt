-- `positions::put_in_order` meets its contract: the loop has the repeaters passed, and all that stands before them.
use Rattle.net.specs.Net.{net_by}
use Rattle.positions.proofs.Nodes.{Passing}
use Rattle.positions.proofs.put_in_order.Given as goal

abbrev pub invariant-loop-r : goal.invariant-loop-r
invariant-loop-r l = Passing (net_by l.job.counts l.job.bytes.now) l.start l.r l.tables.order l.tables.position
