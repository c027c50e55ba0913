-- `Tree::weight_at` meets its contract: the table has the weight behind each node.
use mathlib.Core.Path.{◌∙◌}
use native.Mathlib.Omega.{arith}
use Rattle.net.proofs.InOrder.{checked-weight}
use Rattle.best.proofs.AtPlace.{stage-weight, segment-weight, repeater-weight}
use Rattle.best.proofs.around.Tree.weight_at.Goals as goal

pub overflow_mul-result : goal.overflow_mul-result
overflow_mul-result c =
    let w = c.args.self.now in
    let k = w.net.now.job.checked in
    omega (arith, stage-weight k w.counted c.args.p (omega arith), checked-weight k c.args.p c.requires)

pub returns-then-p-job : goal.returns-then-p-job
returns-then-p-job c = let w = c.args.self.now in stage-weight w.net.now.job.checked w.counted c.args.p (omega arith)

pub overflow_add-result-then-i-job : goal.overflow_add-result-then-i-job
overflow_add-result-then-i-job c =
    let w = c.args.self.now in
    let k = w.net.now.job.checked in
    omega (arith, segment-weight k w.counted c.args.p (omega arith) (omega arith) _ (c.from.ensures ∙ w.weighed.weighs _ (omega arith)), checked-weight k c.args.p c.requires)

pub returns-then-i-job : goal.returns-then-i-job
returns-then-i-job c =
    let w = c.args.self.now in
    segment-weight w.net.now.job.checked w.counted c.args.p (omega arith) (omega arith) _ (c.from.ensures ∙ w.weighed.weighs _ (omega arith))

pub overflow_mul-result-2 : goal.overflow_mul-result-2
overflow_mul-result-2 c =
    let w = c.args.self.now in
    let k = w.net.now.job.checked in
    omega (arith, repeater-weight k w.counted c.args.p c.requires (omega arith) _ c.site-site.ensures.0, checked-weight k c.args.p c.requires)

pub returns : goal.returns
returns c = let w = c.args.self.now in repeater-weight w.net.now.job.checked w.counted c.args.p c.requires (omega arith) _ c.site-site.ensures.0
