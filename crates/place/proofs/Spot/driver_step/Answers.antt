-- `Spot::driver_step` meets its contract: each product fits.
use Rattle.std.proofs.Common.{arith}
use Rattle.place.proofs.Steps.{through-small, weighted-small}
use Rattle.place.proofs.Spot.driver_step.Goals as goal

pub charged_before-requires : goal.charged_before-requires
charged_before-requires c =
    let size = c.args.job.now.checked.drivers c.args.k (omega arith) in
    let through = through-small c.driver_resistance.result.0 c.add-charged.result.0 (omega (arith, c.driver_resistance.ensures)) (omega (arith, c.output.ensures)) in
    let own = weighted-small c.args.self.now.weight c.charging.result.0 (omega arith) (omega arith) in
    (omega arith, omega arith, omega (arith, c.gate.ensures))
