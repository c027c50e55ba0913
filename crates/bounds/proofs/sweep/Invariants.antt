-- `bounds::sweep` meets its contract: the loop knows what a sweep of the positions passed comes to.
use Rattle.lattice.specs.SideOf.{side_of}
use Rattle.net.specs.Order.{driving_by}
use Rattle.place.specs.Figures.{resistances}
use Rattle.bounds.proofs.Sweeping.{Sweeping}
use Rattle.bounds.proofs.sweep.Given as goal

abbrev pub invariant-loop-t : goal.invariant-loop-t
invariant-loop-t l =
    Sweeping (driving_by l.places.arranged.job.counts l.places.arranged.job.bytes.now) (side_of l.side) l.initial.x l.t l.x (resistances l.upstream) l.changed
