-- `Tree::driven_at` meets its contract: the table has the load of the branches at each node.
use native.Mathlib.Omega.{arith}
use Rattle.best.proofs.AtPlace.{site-few, stage-driven, segment-fits, segment-driven, repeater-driven}
use Rattle.best.proofs.around.Tree.driven_at.Goals as goal

pub returns-then-p-job : goal.returns-then-p-job
returns-then-p-job c = stage-driven c.args.self.now.net.now.job.checked _ c.args.p c.requires (omega arith) _ c.stage_load.ensures

pub add-requires : goal.add-requires
add-requires c =
    let r = c.args.self.now.net.now.ready in
    omega (arith, segment-fits r.checked _ c.args.p c.requires (omega arith) (omega arith) _ c.sink.ensures _ c.hanging-hangs.ensures r.in_ranges)

pub returns-then-i-job : goal.returns-then-i-job
returns-then-i-job c =
    let k = c.args.self.now.net.now.job.checked in
    segment-driven k _ c.args.p c.requires (omega arith) (omega arith) _ c.sink.ensures _ c.hanging-hangs.ensures _ c.add.ensures.0

pub returns : goal.returns
returns c =
    let w = c.args.self.now in
    let k = w.net.now.job.checked in
    let few = site-few k c.args.p c.requires (omega arith) _ c.site-site.ensures.0 in
    repeater-driven k _ c.args.p c.requires (omega arith) _ c.site-site.ensures.0 _ (w.counted.held _ few)
