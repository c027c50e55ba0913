-- `parts::seat` meets its contract; the loop's invariant is that the repeaters passed have their seats.
use native.Mathlib.Omega.{arith}
use Rattle.net.proofs.Questions.{ordered}
use Rattle.parts.proofs.Seating.{seated-start, seated-step}
use Rattle.parts.proofs.seat.Goals as goal

pub loop-r-init : goal.loop-r-init
loop-r-init c = seated-start _ c.args.job.now.checked.few_segments

pub loop-r-preserved : goal.loop-r-preserved
loop-r-preserved c =
    let l = c.loop-r in
    seated-step _ (ordered c.args.job.now.checked) l.seats l.r _ (omega arith) c.site-i.ensures.0 l.invariant
