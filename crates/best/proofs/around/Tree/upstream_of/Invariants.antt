-- `Tree::upstream_of` meets its contract: the loop has the sum of what it passed on the path.
use Rattle.net.specs.Order.{placed_by}
use Rattle.best.proofs.Drivers.{ClimbedTo}
use Rattle.best.proofs.around.Tree.upstream_of.Given as goal

abbrev pub invariant-loop-a : goal.invariant-loop-a
invariant-loop-a l = ClimbedTo l.self.net.now.job.counts l.self.net.now.job.bytes.now l.self.net.now.sizing.now l.p l.a l.sum.0

abbrev pub decreases-loop-a : goal.decreases-loop-a
decreases-loop-a l = (placed_by l.self.net.now.job.counts l.self.net.now.job.bytes.now).hangs_at l.a
