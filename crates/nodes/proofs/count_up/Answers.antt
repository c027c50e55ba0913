-- `nodes::count_up` meets its contract; the loop's invariant is that the branches of the segments passed are in the table.
use mathlib.Core.Path.{◌≡◌}
use Prim.Native.Nat.{suc, ◌-◌}
use native.Mathlib.Numerals.{add-one}
use native.Mathlib.Omega.{arith}
use Rattle.nodes.proofs.Counting.{counted_none, counted-all, far-tally, joined-room, counted_step}
use Rattle.nodes.proofs.count_up.Goals as goal

pub loop-i-init : goal.loop-i-init
loop-i-init c = counted_none c.args.net.now.sized.ready

pub branch-one-requires-clause-tally : goal.branch-one-requires-clause-tally
branch-one-requires-clause-tally c =
    let l = c.loop-i in
    let e : l.i ≡ suc (l.i - 1) = omega arith in
    rw add-one (far-tally c.args.net.now.sized.ready (l.i - 1) _ (rw e at l.invariant))

pub add-requires : goal.add-requires
add-requires c =
    let l = c.loop-i in
    let e : l.i ≡ suc (l.i - 1) = omega arith in
    joined-room c.args.net.now.sized.ready (l.i - 1) _ (rw e at l.invariant) _ c.parent-q.ensures.0 _ c.branch-one.ensures

pub loop-i-preserved : goal.loop-i-preserved
loop-i-preserved c =
    let l = c.loop-i in
    let e : l.i ≡ suc (l.i - 1) = omega arith in
    counted_step c.args.net.now.sized.ready (l.i - 1) _ (rw e at l.invariant) _ c.parent-q.ensures.0 _ c.branch-one.ensures _ c.add.ensures

pub returns : goal.returns
returns c = counted-all c.args.net.now.sized.ready c.loop-i.i _ (omega arith) c.loop-i.invariant
