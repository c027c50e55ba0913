-- `elmore::size_segments` meets its contract; the loop's invariant is that the segments passed are in the table.
use native.Mathlib.Omega.{arith}
use Rattle.elmore.proofs.Filling.{sized-step}
use Rattle.elmore.proofs.size_segments.Goals as goal

pub loop-i-preserved : goal.loop-i-preserved
loop-i-preserved c =
    let l = c.loop-i in
    sized-step _ _ l.segments l.i _ (omega (arith, c.args.net.now.sized.job.checked.few_segments)) c.sized.ensures l.invariant
