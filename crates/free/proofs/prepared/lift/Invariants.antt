-- The loop has the positions passed.
use Rattle.net.specs.Order.{driving_by}
use Rattle.free.specs.Searching.{UpsTo}
use Rattle.free.proofs.prepared.lift.Given as goal

abbrev pub invariant-loop-t : goal.invariant-loop-t
invariant-loop-t l = UpsTo (driving_by l.arranged.job.counts l.arranged.job.bytes.now) l.bounds.lower.now l.bounds.upper.now l.t l.ups
