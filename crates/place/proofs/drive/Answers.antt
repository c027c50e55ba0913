-- `place::drive` meets its contract: the loop has what the positions passed drive, and what is gathered behind those before them.
use Rattle.std.proofs.Common.{ℕ, refl, arith}
use lib.ListN.{replicate, length-map, length-replicate, get_or-replicate}
use Rattle.net.specs.Order.{driving_by}
use Rattle.net.proofs.InOrder.{placed, in_limits}
use Rattle.place.specs.Figures.{loads}
use Rattle.place.proofs.Driving.{driving-start}
use Rattle.place.proofs.Turn.{turn, turn-free, turn-held}
use Rattle.place.proofs.drive.Goals as goal

pub loop-t-init : goal.loop-t-init
loop-t-init c =
    let job = c.args.arranged.now.job in
    let few = (in_limits job.checked).few in
    rw c.places-t.ensures.0 (driving-start (driving_by job.counts job.bytes.now) (placed job.checked) (in_limits job.checked) c.args.bounds.lower.now c.args.bounds.upper.now c.requires.bounds_of.lower (loads c.args.driven.now) (replicate 77 0) (simp length-map (omega (arith, c.told-driven))) (omega (arith, length-replicate {A = ℕ} 77 0)) (λ r h. get_or-replicate {A = ℕ} 77 r 0 0 (omega arith)))

pub add-load-requires : goal.add-load-requires
add-load-requires c =
    omega (arith, (turn c.args.arranged.now c.requires.bounds_of c.loop-t.driven c.loop-t.gathered c.loop-t.invariant c.loop-t-test.true (omega (arith, c.places-t.ensures)) c.sink_at.ensures.0 refl).small)

pub shown_load-requires : goal.shown_load-requires
shown_load-requires c =
    let t = turn c.args.arranged.now c.requires.bounds_of c.loop-t.driven c.loop-t.gathered c.loop-t.invariant c.loop-t-test.true (omega (arith, c.places-t.ensures)) c.sink_at.ensures.0 c.add-load.ensures.0 in
    (t.place, t.index, t.small)

pub add-requires : goal.add-requires
add-requires c =
    let t = turn c.args.arranged.now c.requires.bounds_of c.loop-t.driven c.loop-t.gathered c.loop-t.invariant c.loop-t-test.true (omega (arith, c.places-t.ensures)) c.sink_at.ensures.0 c.add-load.ensures.0 in
    omega (arith, t.gathers, t.shows, c.shown_load.ensures)

pub loop-t-preserved-then-bounds-t : goal.loop-t-preserved-then-bounds-t
loop-t-preserved-then-bounds-t c =
    let t = turn c.args.arranged.now c.requires.bounds_of c.loop-t.driven c.loop-t.gathered c.loop-t.invariant c.loop-t-test.true (omega (arith, c.places-t.ensures)) c.sink_at.ensures.0 c.add-load.ensures.0 in
    turn-held c.args.arranged.now c.requires.bounds_of c.loop-t.driven c.loop-t.gathered c.loop-t.invariant c.loop-t-test.true (omega (arith, c.places-t.ensures)) t c.if-bounds-t.true c.shown_load.ensures c.add.ensures.0

pub loop-t-preserved : goal.loop-t-preserved
loop-t-preserved c =
    let t = turn c.args.arranged.now c.requires.bounds_of c.loop-t.driven c.loop-t.gathered c.loop-t.invariant c.loop-t-test.true (omega (arith, c.places-t.ensures)) c.sink_at.ensures.0 c.add-load.ensures.0 in
    turn-free c.args.arranged.now c.requires.bounds_of c.loop-t.driven c.loop-t.gathered c.loop-t.invariant c.loop-t-test.true (omega (arith, c.places-t.ensures)) t (omega (arith, c.if-bounds-t.false))
