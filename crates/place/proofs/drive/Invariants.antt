-- `place::drive` meets its contract: the loop has what the positions passed drive, and what is gathered behind those before them.
use Rattle.net.specs.Order.{driving_by}
use Rattle.place.specs.Figures.{loads}
use Rattle.place.proofs.Driving.{Driven}
use Rattle.place.proofs.drive.Given as goal

abbrev pub invariant-loop-t : goal.invariant-loop-t
invariant-loop-t l = Driven (driving_by l.arranged.job.counts l.arranged.job.bytes.now) l.bounds.lower.now l.bounds.upper.now l.t (loads l.driven) (loads l.gathered)
