-- `bounds::sweep` meets its contract: the loop knows what a sweep of the positions passed comes to.
use Rattle.std.proofs.Common.{arith}
use Rattle.lattice.specs.SideOf.{side_of}
use Rattle.net.specs.Order.{driving_by}
use Rattle.net.proofs.InOrder.{allowed-by, placed, in_limits, driving-submodular}
use Rattle.place.specs.Figures.{loads, resistances}
use Rattle.place.proofs.Steps.{bounds-of, place_few}
use Rattle.place.proofs.Loads.{loads-at, resistances-set}
use Rattle.refine.proofs.Settling.{settled-by-place}
use Rattle.bounds.proofs.Sweeping.{settle-asks, settle-finds, sweeping-step}
use Rattle.bounds.proofs.sweep.Goals as goal

pub drive-requires : goal.drive-requires
drive-requires c =
    let job = c.args.places.now.arranged.job in
    record { bounds_of = bounds-of _ c.requires.allowed (omega (arith, ((allowed-by (driving_by job.counts job.bytes.now) c.args.x.now).0 c.requires.allowed).long)) }

pub upstream_at-before-requires-clause-bounds_of : goal.upstream_at-before-requires-clause-bounds_of
upstream_at-before-requires-clause-bounds_of c =
    let job = c.args.places.now.arranged.job in
    let allowed = c.loop-t.invariant.swept.approaching.allowed in
    bounds-of _ allowed (omega (arith, ((allowed-by (driving_by job.counts job.bytes.now) c.loop-t.x).0 allowed).long))

pub settle-ends-requires : goal.settle-ends-requires
settle-ends-requires c =
    let l = c.loop-t in
    let places = c.args.places.now in
    let job = places.arranged.job in
    let asks = settle-asks (driving_by job.counts job.bytes.now) (placed job.checked) (side_of c.args.side) c.args.x.now l.t (omega arith) l.x (resistances l.upstream) l.changed l.invariant _ c.upstream_at-before.ensures (in_limits job.checked) places.weights.now (loads c.drive.new.driven) places.weighed c.drive.ensures in
    (place_few places.arranged l.t (omega arith), asks.0, asks.1, rw (loads-at c.drive.new.driven l.t) asks.2)

pub bounds-x-t : goal.bounds-x-t
bounds-x-t c =
    let job = c.args.places.now.arranged.job in
    omega (arith, ((allowed-by (driving_by job.counts job.bytes.now) c.loop-t.x).0 c.loop-t.invariant.swept.approaching.allowed).long)

pub bounds-x-t-in-loop-t : goal.bounds-x-t-in-loop-t
bounds-x-t-in-loop-t c =
    let job = c.args.places.now.arranged.job in
    omega (arith, ((allowed-by (driving_by job.counts job.bytes.now) c.loop-t.x).0 c.loop-t.invariant.swept.approaching.allowed).long)

pub loop-t-preserved : goal.loop-t-preserved
loop-t-preserved c =
    let l = c.loop-t in
    let places = c.args.places.now in
    let job = places.arranged.job in
    let net = driving_by job.counts job.bytes.now in
    let settled = settled-by-place job.counts job.bytes.now _ _ l.t _ _ _ (places.arranged.in_order.held l.t (omega arith)) c.settle-ends.ensures in
    let finds = settle-finds net (placed job.checked) (side_of c.args.side) c.args.x.now l.t (omega arith) l.x (resistances l.upstream) l.changed l.invariant _ c.upstream_at-before.ensures (in_limits job.checked) places.weights.now (loads c.drive.new.driven) places.weighed c.drive.ensures _ (rw (loads-at c.drive.new.driven l.t) at settled) in
    rw (resistances-set l.upstream l.t c.upstream_at-before.result)
    (sweeping-step net (placed job.checked) (side_of c.args.side) c.args.x.now l.t (omega arith) l.x (resistances l.upstream) l.changed l.invariant _ c.upstream_at-before.ensures _ _ (driving-submodular job.checked) finds c.end_from-best.ensures)
