-- `bounds::bound` meets its contract: the sizing stays on its way, and each sweep that changes it makes the slack smaller.
use Rattle.lattice.specs.Space.{within}
use Rattle.lattice.specs.SideOf.{side_of}
use Rattle.net.specs.Order.{driving_by}
use Rattle.net.proofs.InOrder.{driving-lattice, driving-submodular}
use Rattle.bounds.proofs.Sweeping.{swept-end}
use Rattle.bounds.proofs.bound.Goals as goal

pub returns : goal.returns
unfolding within
returns c =
    let job = c.args.places.now.arranged.job in
    swept-end (driving-lattice (driving_by job.counts job.bytes.now)) (driving-submodular job.checked) (side_of c.args.side) c.sweep.ensures c.loop-side-test.false
