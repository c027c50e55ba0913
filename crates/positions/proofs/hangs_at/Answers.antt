-- `positions::hangs_at` meets its contract: a place is a driver or a wire.
use Rattle.std.proofs.Common.{◌-◌, ◌+◌, sym, ◌∙◌, arith}
use Rattle.job.proofs.Ranges.{wire-range}
use Rattle.positions.proofs.Nodes.{driver-hangs, wire-hangs}
use Rattle.positions.proofs.hangs_at.Goals as goal

pub returns-then-is_driver : goal.returns-then-is_driver
returns-then-is_driver c =
    let job = c.args.job.now in
    c.requires.positions_of.held c.args.p c.requires.p_bound
    ∙ driver-hangs job.counts job.bytes.now c.args.p c.requires.p_bound (sym c.is_driver.ensures ∙ c.if-is_driver.true)

pub overflow_sub-p : goal.overflow_sub-p
overflow_sub-p c = (wire-range c.args.job.now.counts c.args.p (sym c.is_driver.ensures ∙ c.if-is_driver.false)).0

pub parent-node-requires : goal.parent-node-requires
parent-node-requires c =
    let w = wire-range c.args.job.now.counts c.args.p (sym c.is_driver.ensures ∙ c.if-is_driver.false) in
    omega arith

pub returns : goal.returns
returns c =
    let job = c.args.job.now in
    let e = sym c.is_driver.ensures ∙ c.if-is_driver.false in
    let w = wire-range job.counts c.args.p e in
    let q = job.checked.parents (c.args.p - job.counts.stages) (omega arith) in
    c.requires.positions_of.held (job.counts.stages + c.parent-node.result) (omega (arith, c.parent-node.ensures))
    ∙ rw c.parent-node.ensures.0 (wire-hangs job.counts job.bytes.now job.checked c.args.p e)
