-- `place::drive_and_add` meets its contract: the loop has what the positions passed drive and add, and what is gathered behind those before them.
use Rattle.net.specs.Order.{driving_by}
use Rattle.place.specs.Figures.{loads}
use Rattle.place.proofs.Adding.{Added}
use Rattle.place.proofs.drive_and_add.Given as goal

abbrev pub invariant-loop-t : goal.invariant-loop-t
invariant-loop-t l =
    Added (driving_by l.places.arranged.job.counts l.places.arranged.job.bytes.now) l.bounds.lower.now l.bounds.upper.now l.t (loads l.driven) (loads l.gathered) l.sum.0
