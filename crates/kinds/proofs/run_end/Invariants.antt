-- `kinds::run_end` meets its contract: the records before k are of the kind asked for.
use Rattle.kinds.specs.Kinds.{Run, number_of}
use Rattle.kinds.proofs.run_end.Given as goal

abbrev pub invariant-loop-k : goal.invariant-loop-k
invariant-loop-k l = Run l.bytes l.n (number_of l.kind) l.from l.k
