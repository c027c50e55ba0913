-- `Tables::put_run` meets its contract: the loop has the places passed, whatever the net.
use Rattle.positions.proofs.Nodes.{RunTo}
use Rattle.positions.proofs.Tables.put_run.Given as goal

abbrev pub invariant-loop-p : goal.invariant-loop-p
invariant-loop-p l = RunTo l.start l.end l.passed l.initial.self.order l.initial.self.position l.p l.self.order l.self.position
