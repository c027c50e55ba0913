-- `sinks::load` meets its contract: each record before w is accepted, and the table has the weights by them.
use Rattle.lattice.proofs.Every.{Going}
use Rattle.sinks.specs.Loaded.{accepted, LoadedTo}
use Rattle.sinks.proofs.load.Given as goal

abbrev pub invariant-loop-w : goal.invariant-loop-w
invariant-loop-w l = Going l.all.weights (accepted l.all.records.counts l.all.records.bytes.now) l.w × LoadedTo l.all.records.counts l.all.records.bytes.now l.w l.weights
