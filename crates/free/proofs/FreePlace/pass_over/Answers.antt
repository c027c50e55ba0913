-- The loop has the indices passed.
use mathlib.Core.Path.{◌≡◌}
use Prim.Native.Nat.{suc, ◌+◌, ◌≤◌, ◌<◌}
use native.Mathlib.Omega.{arith}
use Rattle.std.proofs.lemmas.Bool.Decides.{nat_tests}
use Rattle.free.proofs.Passing.{passing-start, passing_step}
use Rattle.free.proofs.FreePlace.pass_over.Goals as goal

pub loop-k-init : goal.loop-k-init
loop-k-init c = passing-start c.requires.low_le_top.0

pub step-step-requires-clause-step_in_limits : goal.step-step-requires-clause-step_in_limits
step-step-requires-clause-step_in_limits c =
    let h = c.requires.step_in_limits in
    (h.0, omega (arith, h.1), h.2, h.3, h.4)

pub add-requires : goal.add-requires
add-requires c =
    let l = c.loop-k in
    omega (arith, c.step-step.ensures.delay, c.requires.all_fit c.from.result (omega (arith, l.invariant.from)) (omega arith))

pub returns-then-le-clause-passed : goal.returns-then-le-clause-passed
returns-then-le-clause-passed c = c.loop-k.invariant

pub returns-then-le-clause-reached : goal.returns-then-le-clause-reached
returns-then-le-clause-reached c =
    let step = rw c.from.ensures at c.step-step.ensures in
    let most : c.add.result.0 ≤ c.args.least.0 = grind (arith, nat_tests) in
    (omega arith, omega (arith, step.delay))

pub loop-k-preserved : goal.loop-k-preserved
loop-k-preserved c =
    let l = c.loop-k in
    let step = rw c.from.ensures at c.step-step.ensures in
    let above : c.args.least.0 < c.add.result.0 = grind (arith, nat_tests) in
    passing_step l.invariant (omega arith) (omega (arith, step.delay))

pub returns-else-le-clause-passed : goal.returns-else-le-clause-passed
returns-else-le-clause-passed c =
    let l = c.loop-k in
    let step = rw c.from.ensures at c.step-step.ensures in
    let above : c.args.least.0 < c.add.result.0 = grind (arith, nat_tests) in
    let e : l.k + 1 ≡ suc c.args.self.now.range.highest = omega arith in
    rw e at (passing_step l.invariant (omega arith) (omega (arith, step.delay)))

pub returns-clause-passed : goal.returns-clause-passed
returns-clause-passed c =
    let l = c.loop-k in
    let e : l.k ≡ suc c.args.self.now.range.highest = omega arith in
    rw e at l.invariant
