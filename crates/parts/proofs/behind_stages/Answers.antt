-- `parts::behind_stages` meets its contract: the sum over segments and repeaters is the sum over sinks.
use native.Mathlib.Omega.{arith}
use Rattle.net.proofs.Questions.{ordered, limited}
use Rattle.net.proofs.Bound.{stages_delay-small, delay-fits}
use Rattle.parts.proofs.Tallies.{whole-driven, whole-delay}
use Rattle.parts.proofs.behind_stages.Goals as goal

pub weighted-requires : goal.weighted-requires
weighted-requires c =
    let r = c.args.net.now.ready in
    omega (arith, c.stages-chain.ensures.delay, stages_delay-small _ (ordered r.checked) (limited r.checked) _ r.in_ranges)

pub weighted-requires-2 : goal.weighted-requires-2
weighted-requires-2 c = rw c.weighted.ensures.0 (whole-driven c.args.net.now.ready _ c.requires _ c.stages-chain.ensures.delay)

pub add-requires : goal.add-requires
add-requires c =
    let r = c.args.net.now.ready in
    omega (
      arith,
      whole-delay r _ c.requires _ c.stages-chain.ensures.delay,
      delay-fits _ (ordered r.checked) (limited r.checked) _ r.in_ranges,
      rw c.weighted.ensures.0 at c.weighted-2.ensures.0,
    )

pub returns : goal.returns
returns c =
    let whole = whole-delay c.args.net.now.ready _ c.requires _ c.stages-chain.ensures.delay in
    record {
      delay = omega (arith, whole, c.add.ensures.0, rw c.weighted.ensures.0 at c.weighted-2.ensures.0);
      load = c.stages-chain.ensures.load;
    }
