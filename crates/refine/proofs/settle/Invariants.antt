-- `refine::settle` meets its contract: the loop knows both ends of the tie among the indices that it has tried.
use Rattle.std.proofs.Common.{◌^◌, ◌<◌}
use Rattle.lattice.proofs.Scan.{Scanned}
use Rattle.net.specs.Order.{placed_by}
use Rattle.net.specs.Driving.{cost}
use Rattle.refine.proofs.settle.Given as goal

abbrev pub invariant-loop-k : goal.invariant-loop-k
invariant-loop-k l =
    Scanned ((placed_by l.job.counts l.job.bytes.now).lowest l.place) (cost (placed_by l.job.counts l.job.bytes.now) l.weight l.fn.upstream.0 l.place l.driven.0) l.k l.ends.lowest l.ends.highest l.ends.cost.0 × (l.ends.cost.0 < 2 ^ 63)
