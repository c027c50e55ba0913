-- `weights::weigh` meets its contract: the loop has the weights of the positions passed, and what is gathered behind those before them.
use Rattle.weights.proofs.Weighing.{Weighing}
use Rattle.weights.proofs.weigh.Given as goal

abbrev pub invariant-loop-t : goal.invariant-loop-t
invariant-loop-t l = Weighing l.arranged.job.counts l.arranged.job.bytes.now l.t l.weights l.gathered
