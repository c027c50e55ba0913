-- The loop has the positions passed.
use mathlib.Core.Path.{◌≡◌, ap, ◌∙◌}
use native.Mathlib.Omega.{arith}
use Rattle.net.specs.Job.{places_by}
use Rattle.net.specs.Driving.{before}
use Rattle.net.specs.Order.{driving_by}
use Rattle.net.proofs.InOrder.{placed}
use Rattle.place.proofs.Upstream.{before-start, before-step}
use Rattle.free.proofs.Tables.{arrives-reads}
use Rattle.free.proofs.prepared.lift.Goals as goal

pub loop-t-init : goal.loop-t-init
loop-t-init c = before-start _ _ _ (omega arith)

pub arrival-requires-clause-node_bound : goal.arrival-requires-clause-node_bound
arrival-requires-clause-node_bound c =
    let a = c.args.arranged.now in
    let l = c.loop-t in
    omega (arith, a.nodes.held l.t (omega arith), (placed a.job.checked).falls l.t (omega arith))

pub loop-t-preserved : goal.loop-t-preserved
loop-t-preserved c =
    let a = c.args.arranged.now in
    let l = c.loop-t in
    let net = driving_by a.job.counts a.job.bytes.now in
    before-step net (placed a.job.checked) _ (arrives-reads net c.args.bounds.lower.now c.args.bounds.upper.now) l.ups l.t _ (omega arith) l.invariant
    (c.arrival.ensures ∙ ap (before _) (a.nodes.held l.t (omega arith)))

pub returns : goal.returns
returns c =
    let l = c.loop-t in
    let e : l.t ≡ places_by c.args.arranged.now.job.counts = omega arith in
    rw e at l.invariant
