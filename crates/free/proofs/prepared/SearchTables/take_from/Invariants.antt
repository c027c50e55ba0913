-- The loop has the sizings with the indices passed.
use Rattle.envelope.specs.Kept.{found_of, SameSpace}
use Rattle.free.specs.ByTables.{net_of}
use Rattle.free.proofs.Turns.{Turning}
use Rattle.free.proofs.prepared.SearchTables.take_from.Given as goal

abbrev pub invariant-loop-k : goal.invariant-loop-k
invariant-loop-k l = record {
  turning : Turning (net_of l.self) l.self.bounds.lower.now l.self.bounds.upper.now l.t l.initial.x (found_of l.initial.kept) l.x l.k (found_of l.kept);
  same_space : SameSpace l.initial.kept l.kept;
}
