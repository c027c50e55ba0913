-- The node is the first one, or what stands before it is free, a driver or a wire.
use mathlib.Core.Path.{sym, ◌∙◌}
use Prim.Native.Nat.{◌-◌}
use native.Mathlib.Omega.{arith}
use Rattle.net.specs.Order.{driving_by}
use Rattle.place.proofs.Steps.{driver-same}
use Rattle.free.proofs.Tables.{arrives-none, arrives-free, arrives-driver, arrives-through}
use Rattle.free.proofs.prepared.arrival.Goals as goal

pub returns-then-node-eq0 : goal.returns-then-node-eq0
returns-then-node-eq0 c =
    let a = c.args.arranged.now in
    arrives-none (driving_by a.job.counts a.job.bytes.now) c.args.bounds.lower.now c.args.bounds.upper.now c.args.ups.now c.args.node c.if-node-eq0.true

pub returns-then-bounds-a : goal.returns-then-bounds-a
returns-then-bounds-a c =
    let a = c.args.arranged.now in
    arrives-free (driving_by a.job.counts a.job.bytes.now) c.args.bounds.lower.now c.args.bounds.upper.now c.args.ups.now c.args.node (λ e. c.if-node-eq0.false e) c.if-bounds-a.true

pub returns-then-is_driver : goal.returns-then-is_driver
returns-then-is_driver c =
    let a = c.args.arranged.now in
    let place = a.in_order.held (c.args.node - 1) (omega arith) in
    arrives-driver (driving_by a.job.counts a.job.bytes.now) c.args.bounds.lower.now c.args.bounds.upper.now c.args.ups.now c.args.node (λ e. c.if-node-eq0.false e)
    (sym (driver-same a.job.counts a.job.bytes.now (c.args.node - 1) _ place) ∙ sym c.is_driver.ensures ∙ c.if-is_driver.true)

pub returns : goal.returns
returns c =
    let a = c.args.arranged.now in
    let place = a.in_order.held (c.args.node - 1) (omega arith) in
    arrives-through (driving_by a.job.counts a.job.bytes.now) c.args.bounds.lower.now c.args.bounds.upper.now c.args.ups.now c.args.node (λ e. c.if-node-eq0.false e)
    (sym (driver-same a.job.counts a.job.bytes.now (c.args.node - 1) _ place) ∙ sym c.is_driver.ensures ∙ c.if-is_driver.false) (omega arith)
