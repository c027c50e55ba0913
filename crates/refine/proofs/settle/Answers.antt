-- `refine::settle` meets its contract: the loop knows both ends of the tie among the indices that it has tried.
use Rattle.std.proofs.Common.{rules, arith}
use Rattle.lattice.proofs.Scan.{scan-less, scan-tie, scan-more}
use Rattle.net.specs.Order.{placed_by}
use Rattle.place.proofs.Steps.{spot-stepped}
use Rattle.refine.proofs.Settling.{index-few, scanned-settled}
use Rattle.refine.proofs.settle.Goals.{then-lt, else-lt+then-eq, else-lt+else-eq}
use Rattle.refine.proofs.settle.Goals as goal

pub overflow_step-k : goal.overflow_step-k
overflow_step-k c = omega (arith, index-few c.args.job.now.checked c.args.place c.requires.0, c.args.job.now.checked.ranges c.args.place c.requires.0, c.range-range.ensures.lowest)

pub overflow_add-k-end : goal.overflow_add-k-end
overflow_add-k-end c = omega (arith, index-few c.args.job.now.checked c.args.place c.requires.0, c.range-range.ensures.highest)

pub loop-k-preserved : goal.loop-k-preserved
loop-k-preserved c =
    let l = c.loop-k in
    let step = rw c.from-in-loop-k.ensures at (spot-stepped c.new-spot.ensures c.step-in-loop-k.ensures) in
    elim c.if-lt.branch [
      | then-lt w ↦ rw w.ends-is (scan-less _ _ _ _ _ _ l.invariant.0 _ step.delay (search rules), step.fits)
      | else-lt+then-eq w ↦ rw w.ends-is (scan-tie _ _ _ _ _ _ l.invariant.0 _ step.delay (search rules), l.invariant.1)
      | else-lt+else-eq w ↦ rw w.ends-is (scan-more _ _ _ _ _ _ l.invariant.0 _ step.delay (search rules), l.invariant.1)
    ]

pub returns : goal.returns
returns c =
    let ranges = c.args.job.now.checked.ranges c.args.place c.requires.0 in
    scanned-settled (placed_by c.args.job.now.counts c.args.job.now.bytes.now) _ _ c.args.place _ _ _ c.loop-k.invariant.0 c.loop-k.invariant.1 (omega (arith, c.range-range.ensures.highest, c.loop-k.auto.k-end (omega (arith, c.range-range.ensures.lowest, c.range-range.ensures.highest))))
