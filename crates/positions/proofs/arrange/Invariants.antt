-- `positions::arrange` meets its contract: the loop has the nodes of the positions passed.
use Rattle.positions.proofs.Nodes.{HangsTo}
use Rattle.positions.proofs.arrange.Given as goal

abbrev pub invariant-loop-t : goal.invariant-loop-t
invariant-loop-t l = HangsTo l.job.counts l.job.bytes.now l.t l.hangs
