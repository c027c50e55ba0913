-- `stages::stage` meets its contract: it is a driver of the sizing's size.
use native.Mathlib.Omega.{arith}
use Rattle.net.proofs.Questions.{ordered, limited, size-held}
use Rattle.net.proofs.Bound.{stage_load-small}
use Rattle.stages.proofs.stage.Goals as goal

pub driver-requires : goal.driver-requires
driver-requires c =
    let r = c.args.net.now.ready in
    let k = r.checked in
    let h = c.requires.s_lt_stages in
    (omega (arith, size-held k r.in_ranges c.args.s h), omega (arith, stage_load-small _ (ordered k) (limited k) _ r.in_ranges c.args.s h))
