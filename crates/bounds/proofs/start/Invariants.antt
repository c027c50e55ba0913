-- `bounds::start` meets its contract: the loop knows that the positions passed have their first index.
use Rattle.lattice.specs.SideOf.{side_of}
use Rattle.net.specs.Order.{driving_by}
use Rattle.bounds.proofs.Starting.{Starting}
use Rattle.bounds.proofs.start.Given as goal

abbrev pub invariant-loop-t : goal.invariant-loop-t
invariant-loop-t l = Starting (side_of l.side) (driving_by l.arranged.job.counts l.arranged.job.bytes.now) l.x l.t
