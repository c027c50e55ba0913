-- `stages::stages` meets its contract; the loop's invariant is that both sums are those of the stages passed.
use mathlib.Core.Path.{◌≡◌, ◌∙◌}
use native.Mathlib.Omega.{arith}
use Rattle.lattice.specs.Lists.{sum as total}
use Rattle.net.specs.Delay.{stages_delay}
use Rattle.stages.proofs.Drives.{stages-step, stages_delay-room, stages_charge-room}
use borrow.Author.Rules.{rules}
use Rattle.stages.proofs.stages.Goals as goal

pub loop-s-init : goal.loop-s-init
unfolding total
loop-s-init c = search rules

pub add-delay-requires : goal.add-delay-requires
add-delay-requires c = stages_delay-room c.args.net.now.ready _ _ c.stage-one.ensures (omega arith) _ c.loop-s.invariant.delay

pub add-load-requires : goal.add-load-requires
add-load-requires c = stages_charge-room c.args.net.now.ready _ _ c.stage-one.ensures (omega arith) _ c.loop-s.invariant.load

pub loop-s-preserved : goal.loop-s-preserved
loop-s-preserved c =
    let l = c.loop-s in
    let one = c.stage-one.ensures in
    record {
      delay = c.add-delay.ensures.0 ∙ stages-step _ l.s _ _ l.invariant.delay one.delay;
      load = c.add-load.ensures.0 ∙ stages-step _ l.s _ _ l.invariant.load one.load;
    }

pub returns : goal.returns
unfolding stages_delay
returns c =
    let l = c.loop-s in
    let e : l.s ≡ c.args.net.now.job.counts.stages = omega arith in
    record { delay = rw e at l.invariant.delay; load = rw e at l.invariant.load }
