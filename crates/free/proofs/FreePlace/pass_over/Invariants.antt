-- The loop has the indices passed.
use Rattle.net.specs.Order.{placed_by}
use Rattle.free.specs.Searching.{PassedTo}
use Rattle.free.proofs.FreePlace.pass_over.Given as goal

abbrev pub invariant-loop-k : goal.invariant-loop-k
invariant-loop-k l =
    PassedTo (placed_by l.job.counts l.job.bytes.now) l.self.spot.weight l.self.spot.before.0 l.self.spot.place l.load.0 l.added.0 l.least.0 l.self.range.lowest l.self.range.highest l.k
