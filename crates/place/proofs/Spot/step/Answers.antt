-- `Spot::step` meets its contract: a place is a driver or a wire.
use Rattle.std.proofs.Common.{sym, ◌∙◌, arith}
use Rattle.place.proofs.Steps.{size-fits, driver-step-of}
use Rattle.place.proofs.Spot.step.Goals as goal

pub driver_step-requires : goal.driver_step-requires
driver_step-requires c =
    let fits = size-fits c.args.job.now.checked c.args.self.now.place c.args.k (sym c.is_driver.ensures ∙ c.if-is_driver.true) (omega arith) (omega arith) in
    (fits.there, omega arith, omega arith, omega arith)

pub returns-then-is_driver : goal.returns-then-is_driver
returns-then-is_driver c =
    let job = c.args.job.now in
    driver-step-of job.counts job.bytes.now c.args.self.now.place (sym c.is_driver.ensures ∙ c.if-is_driver.true) _ _ _ _ _ c.driver_step.ensures
