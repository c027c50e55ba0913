-- `operations::measure` meets its contract: each way through it is the definition.
use mathlib.Core.Path.{sym}
use Rattle.std.proofs.lemmas.Result.{err_from_is_err_and}
use Rattle.allowed.proofs.Numbers.{number-ranges}
use Rattle.operations.proofs.Cases.{measure-job, measure-sizing, measure-answer}
use Rattle.operations.proofs.measure.Goals as goal

pub returns-in_err-checked : goal.returns-in_err-checked
returns-in_err-checked c =
    let p = err_from_is_err_and c.from_residual.result c.from_residual.ensures.1 in
    rw (p.1, p.2) (measure-job c.args.job.now c.args.sizing.now c.in_err-checked.field-0.0.refusal c.in_err-checked.ensures.number)

pub returns-in_err-check_sizing : goal.returns-in_err-check_sizing
returns-in_err-check_sizing c =
    let k = c.in_ok-checked.ensures in
    let p = err_from_is_err_and c.from_residual-in_err-check_sizing.result c.from_residual-in_err-check_sizing.ensures.1 in
    rw (p.1, p.2)
    (measure-sizing c.args.job.now c.args.sizing.now (rw k.passed.bytes at c.in_ok-checked.field-0.job.checked) (sym k.number)
    c.in_err-check_sizing.field-0.0 (rw k.passed.bytes at c.in_err-check_sizing.ensures))

pub invariant_of-net : goal.invariant_of-net
invariant_of-net c =
    let j = c.in_ok-checked.field-0.job in
    record { ready = record { checked = j.checked; in_ranges = number-ranges _ c.args.sizing.now (sym c.in_ok-check_sizing.ensures) } }

pub returns : goal.returns
returns c =
    let k = c.in_ok-checked.ensures in
    measure-answer c.args.job.now c.args.sizing.now (rw k.passed.bytes at c.in_ok-checked.field-0.job.checked) (sym k.number) c.figures.result
    (sym (rw k.passed.bytes at c.in_ok-check_sizing.ensures)) (rw k.passed.bytes at c.figures.ensures.delay) (rw k.passed.bytes at c.figures.ensures.load)
