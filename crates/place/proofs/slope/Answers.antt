-- `place::slope` meets its contract: a place is a driver or a wire, and its slope fits.
use Rattle.std.proofs.Common.{◌*◌, sym, ◌∙◌, arith}
use Rattle.net.proofs.InOrder.{checked-weight}
use Rattle.place.proofs.Steps.{size-fits, width-fits, slope-small, driver-slope, wire-slope}
use Rattle.place.proofs.slope.Goals as goal

pub driver_resistance-requires : goal.driver_resistance-requires
driver_resistance-requires c = (size-fits c.args.job.now.checked c.args.p c.from-index.result (sym c.is_driver.ensures ∙ c.if-is_driver.true) c.requires.0 (omega arith)).there

pub weighted-requires : goal.weighted-requires
weighted-requires c =
    let fits = size-fits c.args.job.now.checked c.args.p c.from-index.result (sym c.is_driver.ensures ∙ c.if-is_driver.true) c.requires.0 (omega arith) in
    let weight = checked-weight c.args.job.now.checked c.args.p c.requires.0 in
    omega (arith, slope-small c.args.weight c.driver_resistance.result.0 (omega arith) (omega (arith, c.driver_resistance.ensures)))

pub returns-then-is_driver : goal.returns-then-is_driver
returns-then-is_driver c =
    let job = c.args.job.now in
    let driver = sym c.is_driver.ensures ∙ c.if-is_driver.true in
    let fits = size-fits job.checked c.args.p c.from-index.result driver c.requires.0 (omega arith) in
    let weight = checked-weight job.checked c.args.p c.requires.0 in (
      c.weighted.ensures.0 ∙ cc (c.requires.2, rw c.from-index.ensures at c.driver_resistance.ensures) ∙ sym (driver-slope job.counts job.bytes.now c.args.p driver c.args.k),
      rw c.weighted.ensures.0 (slope-small c.args.weight c.driver_resistance.result.0 (omega arith) (omega (arith, c.driver_resistance.ensures))),
    )

pub overflow_sub-p : goal.overflow_sub-p
overflow_sub-p c = (width-fits c.args.job.now.checked c.args.p c.from-index.result c.table.result (sym c.is_driver.ensures ∙ c.if-is_driver.false) (omega arith) c.table.ensures).first

pub wire-wire-requires : goal.wire-wire-requires
wire-wire-requires c =
    let fits = width-fits c.args.job.now.checked c.args.p c.from-index.result c.table.result (sym c.is_driver.ensures ∙ c.if-is_driver.false) (omega arith) c.table.ensures in
    record { table_of = fits.table; i_lt_segments = (fits.there, fits.width) }

pub overflow_mul-weight : goal.overflow_mul-weight
overflow_mul-weight c = omega (arith, c.requires.2, checked-weight c.args.job.now.checked c.args.p c.requires.0)

pub weighted-requires-2 : goal.weighted-requires-2
weighted-requires-2 c =
    let fits = width-fits c.args.job.now.checked c.args.p c.from-index.result c.table.result (sym c.is_driver.ensures ∙ c.if-is_driver.false) (omega arith) c.table.ensures in
    let weight = checked-weight c.args.job.now.checked c.args.p c.requires.0 in
    omega (arith, slope-small (2 * c.args.weight) c.wire-wire.result.resistance.0 (omega arith) (omega (arith, c.wire-wire.ensures.resistance)))

pub returns : goal.returns
returns c =
    let job = c.args.job.now in
    let wire = sym c.is_driver.ensures ∙ c.if-is_driver.false in
    let fits = width-fits job.checked c.args.p c.from-index.result c.table.result wire (omega arith) c.table.ensures in
    let weight = checked-weight job.checked c.args.p c.requires.0 in (
      c.weighted-2.ensures.0 ∙ cc (c.requires.2, rw c.from-index.ensures at c.wire-wire.ensures.resistance) ∙ sym (wire-slope job.counts job.bytes.now c.args.p wire c.args.k),
      rw c.weighted-2.ensures.0 (slope-small (2 * c.args.weight) c.wire-wire.result.resistance.0 (omega arith) (omega (arith, c.wire-wire.ensures.resistance))),
    )
