-- `bounds::bound` meets its contract: the sizing stays on its way, and each sweep that changes it makes the slack smaller.
use Rattle.lattice.specs.Refine.{slack, Approaching}
use Rattle.lattice.specs.SideOf.{side_of}
use Rattle.net.specs.Driving.{allowed_by, delay_by}
use Rattle.net.specs.Order.{driving_by}
use Rattle.bounds.proofs.bound.Given as goal

abbrev pub invariant-loop-side : goal.invariant-loop-side
invariant-loop-side l =
    Approaching (side_of l.side) (allowed_by (driving_by l.places.arranged.job.counts l.places.arranged.job.bytes.now)) (delay_by (driving_by l.places.arranged.job.counts l.places.arranged.job.bytes.now)) l.x

abbrev pub decreases-loop-side : goal.decreases-loop-side
decreases-loop-side l = slack (side_of l.side) (allowed_by (driving_by l.places.arranged.job.counts l.places.arranged.job.bytes.now)) l.x
