-- `place::shown_load` meets its contract: a place is a driver or a wire.
use Rattle.std.proofs.Common.{sym, ◌∙◌, arith}
use Rattle.place.proofs.Steps.{size-fits, width-fits, driver-load, wire-load}
use Rattle.place.proofs.shown_load.Goals as goal

pub gate-requires : goal.gate-requires
gate-requires c = (size-fits c.args.job.now.checked c.args.p c.from-index.result (sym c.is_driver.ensures ∙ c.if-is_driver.true) c.requires.0 (omega arith)).there

pub returns-then-is_driver : goal.returns-then-is_driver
returns-then-is_driver c =
    let job = c.args.job.now in
    let shown = c.gate.ensures ∙ sym (driver-load job.counts job.bytes.now c.args.p (sym c.is_driver.ensures ∙ c.if-is_driver.true) c.from-index.result c.args.driven.0) in
    rw c.from-index.ensures at shown

pub overflow_sub-p : goal.overflow_sub-p
overflow_sub-p c = (width-fits c.args.job.now.checked c.args.p c.from-index.result c.table.result (sym c.is_driver.ensures ∙ c.if-is_driver.false) (omega arith) c.table.ensures).first

pub wire-wire-requires : goal.wire-wire-requires
wire-wire-requires c =
    let fits = width-fits c.args.job.now.checked c.args.p c.from-index.result c.table.result (sym c.is_driver.ensures ∙ c.if-is_driver.false) (omega arith) c.table.ensures in
    record { table_of = fits.table; i_lt_segments = (fits.there, fits.width) }

pub add-requires : goal.add-requires
add-requires c =
    let fits = width-fits c.args.job.now.checked c.args.p c.from-index.result c.table.result (sym c.is_driver.ensures ∙ c.if-is_driver.false) (omega arith) c.table.ensures in
    omega (arith, c.wire-wire.ensures.capacitance)

pub returns : goal.returns
returns c =
    let job = c.args.job.now in
    let capacitance = rw c.from-index.ensures at c.wire-wire.ensures.capacitance in
    let shown = wire-load job.counts job.bytes.now c.args.p (sym c.is_driver.ensures ∙ c.if-is_driver.false) c.args.k c.args.driven.0 in
    omega (arith, c.add.ensures.0)
