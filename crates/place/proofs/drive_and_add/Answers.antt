-- `place::drive_and_add` meets its contract: the loop has what the positions passed drive and add, and what is gathered behind those before them.
use Rattle.std.proofs.Common.{ℕ, ◌-◌, refl, arith}
use lib.ListN.{replicate, length-map, length-replicate, get_or-replicate}
use Rattle.net.specs.Order.{driving_by}
use Rattle.net.proofs.InOrder.{placed, in_limits}
use Rattle.place.specs.Figures.{loads}
use Rattle.place.proofs.Steps.{spot-limits, spot-stepped}
use Rattle.place.proofs.Adding.{added-start}
use Rattle.place.proofs.Turn.{turn, adding-free, adding-fits, adding-held}
use Rattle.place.proofs.drive_and_add.Goals as goal

pub loop-t-init : goal.loop-t-init
loop-t-init c =
    let job = c.args.places.now.arranged.job in
    let few = (in_limits job.checked).few in
    rw c.places-t.ensures.0 (added-start (driving_by job.counts job.bytes.now) (placed job.checked) (in_limits job.checked) c.args.bounds.lower.now c.args.bounds.upper.now c.requires.bounds_of.lower (loads c.args.driven.now) (replicate 77 0) (simp length-map (omega (arith, c.told-driven))) (omega (arith, length-replicate {A = ℕ} 77 0)) (λ r h. get_or-replicate {A = ℕ} 77 r 0 0 (omega arith)))

pub add-load-requires : goal.add-load-requires
add-load-requires c =
    omega (arith, (turn c.args.places.now.arranged c.requires.bounds_of c.loop-t.driven c.loop-t.gathered c.loop-t.invariant.driving c.loop-t-test.true (omega (arith, c.places-t.ensures)) c.sink_at.ensures.0 refl).small)

pub step-step-requires-clause-step_in_limits : goal.step-step-requires-clause-step_in_limits
step-step-requires-clause-step_in_limits c =
    let places = c.args.places.now in
    let t = turn places.arranged c.requires.bounds_of c.loop-t.driven c.loop-t.gathered c.loop-t.invariant.driving c.loop-t-test.true (omega (arith, c.places-t.ensures)) c.sink_at.ensures.0 c.add-load.ensures.0 in
    let weight = (in_limits places.arranged.job.checked).weights (c.loop-t.t - 1) (omega (arith, c.places-t.ensures)) in
    let weighs = places.weighed.held (c.loop-t.t - 1) (omega arith) (omega (arith, c.places-t.ensures)) in
    spot-limits c.new-spot.ensures (t.place, rw c.from.ensures t.index, omega arith, omega arith, t.small)

pub add-requires : goal.add-requires
add-requires c =
    let t = turn c.args.places.now.arranged c.requires.bounds_of c.loop-t.driven c.loop-t.gathered c.loop-t.invariant.driving c.loop-t-test.true (omega (arith, c.places-t.ensures)) c.sink_at.ensures.0 c.add-load.ensures.0 in
    let step = rw c.from.ensures at (spot-stepped c.new-spot.ensures c.step-step.ensures) in
    omega (arith, t.gathers, t.shows, step.load)

pub add-sum-requires : goal.add-sum-requires
add-sum-requires c =
    let places = c.args.places.now in
    let t = turn places.arranged c.requires.bounds_of c.loop-t.driven c.loop-t.gathered c.loop-t.invariant.driving c.loop-t-test.true (omega (arith, c.places-t.ensures)) c.sink_at.ensures.0 c.add-load.ensures.0 in
    let step = rw c.from.ensures at (spot-stepped c.new-spot.ensures c.step-step.ensures) in
    let weighs = places.weighed.held (c.loop-t.t - 1) (omega arith) (omega (arith, c.places-t.ensures)) in
    omega (arith, adding-fits places.arranged c.requires.bounds_of c.loop-t.driven c.loop-t.gathered c.loop-t.invariant c.loop-t-test.true (omega (arith, c.places-t.ensures)) t c.if-bounds-t.true weighs step.delay)

pub loop-t-preserved-then-bounds-t : goal.loop-t-preserved-then-bounds-t
loop-t-preserved-then-bounds-t c =
    let places = c.args.places.now in
    let t = turn places.arranged c.requires.bounds_of c.loop-t.driven c.loop-t.gathered c.loop-t.invariant.driving c.loop-t-test.true (omega (arith, c.places-t.ensures)) c.sink_at.ensures.0 c.add-load.ensures.0 in
    let step = rw c.from.ensures at (spot-stepped c.new-spot.ensures c.step-step.ensures) in
    let weighs = places.weighed.held (c.loop-t.t - 1) (omega arith) (omega (arith, c.places-t.ensures)) in
    adding-held places.arranged c.requires.bounds_of c.loop-t.driven c.loop-t.gathered c.loop-t.invariant c.loop-t-test.true (omega (arith, c.places-t.ensures)) t c.if-bounds-t.true weighs step.delay step.load c.add.ensures.0 c.add-sum.ensures.0

pub loop-t-preserved : goal.loop-t-preserved
loop-t-preserved c =
    let t = turn c.args.places.now.arranged c.requires.bounds_of c.loop-t.driven c.loop-t.gathered c.loop-t.invariant.driving c.loop-t-test.true (omega (arith, c.places-t.ensures)) c.sink_at.ensures.0 c.add-load.ensures.0 in
    adding-free c.args.places.now.arranged c.requires.bounds_of c.loop-t.driven c.loop-t.gathered c.loop-t.invariant c.loop-t-test.true (omega (arith, c.places-t.ensures)) t (omega (arith, c.if-bounds-t.false))
