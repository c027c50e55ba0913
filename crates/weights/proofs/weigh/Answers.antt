-- `weights::weigh` meets its contract: the loop has the weights of the positions passed, and what is gathered behind those before them.
use Rattle.std.proofs.Common.{ℕ, arith}
use lib.ListN.{replicate, length-replicate, get_or-replicate}
use Rattle.net.proofs.InOrder.{in_limits}
use Rattle.weights.proofs.Weighing.{weighing-start, turn-driven, turn-gathered, turn-after}
use Rattle.weights.proofs.weigh.Goals as goal

pub loop-t-init : goal.loop-t-init
loop-t-init c =
    let job = c.args.arranged.now.job in
    let few = (in_limits job.checked).few in
    rw c.places-t.ensures.0 (weighing-start job.counts job.bytes.now c.args.weights.now (replicate 77 0) (omega arith) (omega (arith, length-replicate {A = ℕ} 77 0)) (λ r h. get_or-replicate {A = ℕ} 77 r 0 0 (omega arith)))

pub overflow_add-driven-in-loop-t : goal.overflow_add-driven-in-loop-t
overflow_add-driven-in-loop-t c = omega (arith, turn-driven c.args.arranged.now c.loop-t.invariant c.loop-t-test.true (omega (arith, c.places-t.ensures)) c.sink_weight.ensures.0)

pub own_weight-requires : goal.own_weight-requires
own_weight-requires c = turn-driven c.args.arranged.now c.loop-t.invariant c.loop-t-test.true (omega (arith, c.places-t.ensures)) c.sink_weight.ensures.0

pub overflow_add-gathered : goal.overflow_add-gathered
overflow_add-gathered c =
    omega (
      arith,
      turn-driven c.args.arranged.now c.loop-t.invariant c.loop-t-test.true (omega (arith, c.places-t.ensures)) c.sink_weight.ensures.0,
      turn-gathered c.args.arranged.now c.loop-t.invariant c.loop-t-test.true (omega (arith, c.places-t.ensures)) c.sink_weight.ensures.0,
    )

pub loop-t-preserved : goal.loop-t-preserved
loop-t-preserved c = turn-after c.args.arranged.now c.loop-t.invariant c.loop-t-test.true (omega (arith, c.places-t.ensures)) c.sink_weight.ensures.0 c.own_weight.ensures
