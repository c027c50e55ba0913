-- `Spot::wire_step` meets its contract: each product fits, and is the definition.
use Rattle.std.proofs.Common.{◌∙◌, arith}
use Rattle.place.proofs.Steps.{through-small, weighted-small, width-fits, wire-step-of}
use Rattle.place.proofs.Spot.wire_step.Goals as goal

pub overflow_sub-self : goal.overflow_sub-self
overflow_sub-self c =
    (width-fits c.args.job.now.checked c.args.self.now.place c.args.k c.args.self.now.table c.requires.wire_in_limits.0 c.requires.wire_in_limits.1.1 c.requires.table_of).first

pub wire-wire-requires : goal.wire-wire-requires
wire-wire-requires c =
    let fits = width-fits c.args.job.now.checked c.args.self.now.place c.args.k c.args.self.now.table c.requires.wire_in_limits.0 c.requires.wire_in_limits.1.1 c.requires.table_of in
    record { table_of = fits.table; i_lt_segments = (fits.there, fits.width) }

pub charged_twice-charged-requires : goal.charged_twice-charged-requires
charged_twice-charged-requires c =
    let fits = width-fits c.args.job.now.checked c.args.self.now.place c.args.k c.args.self.now.table c.requires.wire_in_limits.0 c.requires.wire_in_limits.1.1 c.requires.table_of in
    omega (arith, c.wire-wire.ensures.capacitance)

pub charging-requires : goal.charging-requires
charging-requires c =
    let fits = width-fits c.args.job.now.checked c.args.self.now.place c.args.k c.args.self.now.table c.requires.wire_in_limits.0 c.requires.wire_in_limits.1.1 c.requires.table_of in
    let through = through-small c.wire-wire.result.resistance.0 c.charged_twice-charged.result.0 (omega (arith, c.wire-wire.ensures.resistance)) (omega (arith, c.wire-wire.ensures.capacitance)) in
    omega arith

pub weighted-own-requires : goal.weighted-own-requires
weighted-own-requires c =
    let fits = width-fits c.args.job.now.checked c.args.self.now.place c.args.k c.args.self.now.table c.requires.wire_in_limits.0 c.requires.wire_in_limits.1.1 c.requires.table_of in
    let through = through-small c.wire-wire.result.resistance.0 c.charged_twice-charged.result.0 (omega (arith, c.wire-wire.ensures.resistance)) (omega (arith, c.wire-wire.ensures.capacitance)) in
    let own = weighted-small c.args.self.now.weight c.charging.result.0 (omega arith) (omega arith) in
    omega arith

pub charged_before-requires : goal.charged_before-requires
charged_before-requires c =
    let fits = width-fits c.args.job.now.checked c.args.self.now.place c.args.k c.args.self.now.table c.requires.wire_in_limits.0 c.requires.wire_in_limits.1.1 c.requires.table_of in
    let through = through-small c.wire-wire.result.resistance.0 c.charged_twice-charged.result.0 (omega (arith, c.wire-wire.ensures.resistance)) (omega (arith, c.wire-wire.ensures.capacitance)) in
    let own = weighted-small c.args.self.now.weight c.charging.result.0 (omega arith) (omega arith) in
    (omega arith, omega arith, omega (arith, c.wire-wire.ensures.capacitance))

pub returns : goal.returns
returns c =
    let charged = c.charged_before.ensures in
    wire-step-of c.args.job.now.counts c.args.job.now.bytes.now c.args.self.now.place c.requires.wire_in_limits.0 _ _ c.args.k c.args.driven.0 _ (charged.1 ∙ cc (c.add.ensures.0, c.wire-wire.ensures.capacitance)) (charged.0 ∙ cc (c.weighted-own.ensures.0, c.charging.ensures.0, c.charged_twice-charged.ensures.0, c.add.ensures.0, c.wire-wire.ensures.resistance, c.wire-wire.ensures.capacitance)) charged.2
