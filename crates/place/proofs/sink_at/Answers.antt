-- `place::sink_at` meets its contract: a place is a driver or a wire.
use Rattle.std.proofs.Common.{◌-◌, sym, ◌∙◌, arith}
use Rattle.job.proofs.Ranges.{wire-range}
use Rattle.place.proofs.Steps.{driver-sink, wire-sink}
use Rattle.place.proofs.sink_at.Goals as goal

pub returns-then-is_driver : goal.returns-then-is_driver
returns-then-is_driver c =
    let job = c.args.job.now in
    (sym (driver-sink job.counts job.bytes.now c.args.p (sym c.is_driver.ensures ∙ c.if-is_driver.true)), omega arith)

pub overflow_sub-p : goal.overflow_sub-p
overflow_sub-p c = (wire-range c.args.job.now.counts c.args.p (sym c.is_driver.ensures ∙ c.if-is_driver.false)).0

pub sink-requires : goal.sink-requires
sink-requires c =
    let w = wire-range c.args.job.now.counts c.args.p (sym c.is_driver.ensures ∙ c.if-is_driver.false) in
    omega arith

pub returns : goal.returns
returns c =
    let job = c.args.job.now in
    let wire = sym c.is_driver.ensures ∙ c.if-is_driver.false in
    let w = wire-range job.counts c.args.p wire in
    let e = wire-sink job.counts job.bytes.now c.args.p wire in
    (c.sink.ensures ∙ sym e, omega (arith, c.sink.ensures, job.checked.sinks (c.args.p - job.counts.stages) (omega arith)))
