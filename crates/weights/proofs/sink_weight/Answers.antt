-- `weights::sink_weight` meets its contract: a place is a driver or a wire.
use Rattle.std.proofs.Common.{◌-◌, sym, ◌∙◌, arith}
use Rattle.net.specs.Net.{net_by}
use Rattle.job.proofs.Ranges.{wire-range}
use Rattle.place.proofs.Steps.{by_size, by-segment}
use Rattle.weights.proofs.sink_weight.Goals as goal

pub returns-then-is_driver : goal.returns-then-is_driver
returns-then-is_driver c =
    let job = c.args.job.now in
    (sym (by_size job.counts job.bytes.now c.args.p (sym c.is_driver.ensures ∙ c.if-is_driver.true) 0 (net_by job.counts job.bytes.now).weight), omega arith)

pub overflow_sub-p : goal.overflow_sub-p
overflow_sub-p c = (wire-range c.args.job.now.counts c.args.p (sym c.is_driver.ensures ∙ c.if-is_driver.false)).0

pub bounds-sinks-p : goal.bounds-sinks-p
bounds-sinks-p c =
    let w = wire-range c.args.job.now.counts c.args.p (sym c.is_driver.ensures ∙ c.if-is_driver.false) in
    omega arith

pub returns : goal.returns
returns c =
    let job = c.args.job.now in
    let wire = sym c.is_driver.ensures ∙ c.if-is_driver.false in
    let w = wire-range job.counts c.args.p wire in
    let e = c.from.ensures ∙ c.requires.sink_weights.weighs (c.args.p - job.counts.stages) (omega arith) in
    (e ∙ sym (by-segment job.counts job.bytes.now c.args.p wire (λ s. 0) (net_by job.counts job.bytes.now).weight (λ r. 0)), omega (arith, e, job.checked.weights (c.args.p - job.counts.stages) (omega arith)))
