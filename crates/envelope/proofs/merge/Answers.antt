-- The loop has merged the places before i.
use native.Mathlib.Omega.{arith}
use Rattle.envelope.proofs.Merging.{merging_start, merging-step, merging-end}
use Rattle.envelope.proofs.merge.Goals as goal

pub loop-i-init : goal.loop-i-init
loop-i-init c = merging_start _ _ _ c.requires

pub loop-i-preserved : goal.loop-i-preserved
loop-i-preserved c =
    let l = c.loop-i in
    rw c.first_seen.ensures (merging-step _ _ _ l.i l.best l.invariant (omega arith))

pub returns : goal.returns
returns c = merging-end _ _ _ c.loop-i.i c.loop-i.best c.loop-i.invariant (omega arith)
