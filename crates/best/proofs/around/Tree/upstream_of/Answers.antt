-- `Tree::upstream_of` meets its contract: the loop has the sum of what it passed on the path.
use mathlib.Core.Path.{sym, ◌∙◌}
use native.Mathlib.Omega.{arith}
use Rattle.best.proofs.Drivers.{to_start, to-top, to-fits, to-driver, to-wire, to-less}
use Rattle.best.proofs.around.Tree.upstream_of.Goals as goal

pub loop-a-init : goal.loop-a-init
loop-a-init c = let w = c.args.self.now in to_start w.net.now.job.checked _ w.allowed c.args.p c.requires

pub add-sum-requires : goal.add-sum-requires
add-sum-requires c =
    let w = c.args.self.now in
    omega (arith, to-fits w.net.now.job.checked _ w.allowed c.args.p c.requires _ _ _ _ c.loop-a.invariant c.drives-a.ensures c.slope.ensures.0)

pub returns-then-is_driver : goal.returns-then-is_driver
returns-then-is_driver c =
    let w = c.args.self.now in
    λ u i. c.add-sum.ensures.0
    ∙ to-driver w.net.now.job.checked _ w.allowed c.args.p c.requires _ _ _ _ c.loop-a.invariant c.drives-a.ensures c.slope.ensures.0 (sym c.is_driver.ensures ∙ c.if-is_driver.true) u i

pub loop-a-smaller : goal.loop-a-smaller
loop-a-smaller c =
    let w = c.args.self.now in
    to-less w.net.now.job.checked _ w.allowed c.args.p c.requires _ _ _ _ c.loop-a.invariant c.drives-a.ensures c.slope.ensures.0

pub loop-a-preserved : goal.loop-a-preserved
loop-a-preserved c =
    let w = c.args.self.now in
    rw c.add-sum.ensures.0
    (to-wire w.net.now.job.checked _ w.allowed c.args.p c.requires _ _ _ _ c.loop-a.invariant c.drives-a.ensures c.slope.ensures.0 (sym c.is_driver.ensures ∙ c.if-is_driver.false))

pub returns : goal.returns
returns c =
    let w = c.args.self.now in
    to-top w.net.now.job.checked _ w.allowed c.args.p c.requires _ _ (omega (arith, c.loop-a-test.false)) c.loop-a.invariant
