-- `Tree::drives` meets its contract: which place drives another goes by the kind of place.
use Rattle.best.proofs.Drivers.{drives-stage, drives-repeater, drives-source, drives-repeated, drives-wire}
use Rattle.best.proofs.around.Tree.drives.Goals as goal

pub returns-then-p-stages : goal.returns-then-p-stages
returns-then-p-stages c = drives-stage c.args.self.now.net.now.job.checked c.args.p c.requires.0 c.if-p-stages.true

pub returns-then-job-i : goal.returns-then-job-i
returns-then-job-i c = drives-repeater c.args.self.now.net.now.job.checked c.args.p c.if-p-stages.false _ c.if-job-i.true c.requires.1 c.site.ensures.0

pub returns-then-node-eq0 : goal.returns-then-node-eq0
returns-then-node-eq0 c =
    drives-source c.args.self.now.net.now.job.checked c.args.p c.if-p-stages.false _ c.if-job-i.false c.parent-node.ensures.0 c.if-node-eq0.true

pub returns-in-Some : goal.returns-in-Some
returns-in-Some c =
    let w = c.args.self.now in
    rw c.from.ensures
    (drives-repeated w.net.now.job.checked c.args.p c.if-p-stages.false _ c.if-job-i.false c.parent-node.ensures.0 c.if-node-eq0.false w.seated c.in-Some.r c.in-Some.is)

pub returns-in-None : goal.returns-in-None
returns-in-None c =
    let w = c.args.self.now in
    drives-wire w.net.now.job.checked c.args.p c.if-p-stages.false _ c.if-job-i.false c.parent-node.ensures.0 c.if-node-eq0.false w.seated c.in-None.is
