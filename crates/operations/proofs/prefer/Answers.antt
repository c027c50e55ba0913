-- `operations::prefer` meets its contract: each way through it is the definition.
use mathlib.Core.Path.{sym, ap, ◌∙◌}
use Rattle.std.proofs.Common.{rules}
use Rattle.allowed.proofs.Numbers.{number-ranges}
use Rattle.refusal.specs.Numbers.{refusal_number}
use Rattle.questions.specs.Check.{check_number}
use Rattle.operations.proofs.Cases.{was_ok, was_err, prefer-job, prefer-first-no, prefer-second-no, prefer-first, prefer-second}
use Rattle.operations.proofs.prefer.Goals as goal

pub returns-in_err-job : goal.returns-in_err-job
returns-in_err-job c =
    let f = was_err c.check.result c.in_err-job.ensures.value in
    rw c.from_residual.ensures (prefer-job c.args.job.now c.args.x.now c.args.y.now f.0.refusal (sym (ap check_number f.1) ∙ c.check.ensures.number))

pub returns-in_err-ok : goal.returns-in_err-ok
returns-in_err-ok c =
    let j = c.in_ok-job.field-0.job in
    let k = rw (was_ok c.check.result c.in_ok-job.field-0 c.in_ok-job.ensures.value) at c.check.ensures in
    let f = was_err c.check_sizing.result c.in_err-ok.ensures.value in
    rw c.from_residual-in_err-ok.ensures
    (prefer-first-no c.args.job.now c.args.x.now c.args.y.now (rw k.passed.bytes at j.checked) (sym k.number) f.0
    (rw k.passed.bytes at (sym (ap refusal_number f.1) ∙ c.check_sizing.ensures)))

pub returns-in_err-ok-2 : goal.returns-in_err-ok-2
returns-in_err-ok-2 c =
    let j = c.in_ok-job.field-0.job in
    let k = rw (was_ok c.check.result c.in_ok-job.field-0 c.in_ok-job.ensures.value) at c.check.ensures in
    let f = was_err c.check_sizing-2.result c.in_err-ok-2.ensures.value in
    rw c.from_residual-in_err-ok-2.ensures
    (prefer-second-no c.args.job.now c.args.x.now c.args.y.now (rw k.passed.bytes at j.checked) (sym k.number) f.0
    (rw k.passed.bytes at (sym (ap refusal_number f.1) ∙ c.check_sizing-2.ensures)))

pub invariant_of-first : goal.invariant_of-first
invariant_of-first c =
    let j = c.in_ok-job.field-0.job in
    let e = rw (was_ok c.check_sizing.result c.in_ok-ok.field-0 c.in_ok-ok.ensures.value) at c.check_sizing.ensures in
    record { ready = record { checked = j.checked; in_ranges = number-ranges _ c.args.x.now (sym e) } }

pub invariant_of-second : goal.invariant_of-second
invariant_of-second c =
    let j = c.in_ok-job.field-0.job in
    let e = rw (was_ok c.check_sizing-2.result c.in_ok-ok-2.field-0 c.in_ok-ok-2.ensures.value) at c.check_sizing-2.ensures in
    record { ready = record { checked = j.checked; in_ranges = number-ranges _ c.args.y.now (sym e) } }

pub returns-then-le : goal.returns-then-le
returns-then-le c =
    let j = c.in_ok-job.field-0.job in
    let k = rw (was_ok c.check.result c.in_ok-job.field-0 c.in_ok-job.ensures.value) at c.check.ensures in
    let ex = rw (was_ok c.check_sizing.result c.in_ok-ok.field-0 c.in_ok-ok.ensures.value) at c.check_sizing.ensures in
    let ey = rw (was_ok c.check_sizing-2.result c.in_ok-ok-2.field-0 c.in_ok-ok-2.ensures.value) at c.check_sizing-2.ensures in
    let f = prefer-first c.args.job.now c.args.x.now c.args.y.now (rw k.passed.bytes at j.checked) (sym k.number) (rw k.passed.bytes at (sym ex)) (rw k.passed.bytes at (sym ey))
    c.delay.result.0 c.delay-2.result.0 (rw k.passed.bytes at c.delay.ensures) (rw k.passed.bytes at c.delay-2.ensures) (search rules) in
    (f.0, f.1, c.places-places.ensures.0 ∙ f.2, rw c.places-places.ensures.0 f.3)

pub returns : goal.returns
returns c =
    let j = c.in_ok-job.field-0.job in
    let k = rw (was_ok c.check.result c.in_ok-job.field-0 c.in_ok-job.ensures.value) at c.check.ensures in
    let ex = rw (was_ok c.check_sizing.result c.in_ok-ok.field-0 c.in_ok-ok.ensures.value) at c.check_sizing.ensures in
    let ey = rw (was_ok c.check_sizing-2.result c.in_ok-ok-2.field-0 c.in_ok-ok-2.ensures.value) at c.check_sizing-2.ensures in
    let f = prefer-second c.args.job.now c.args.x.now c.args.y.now (rw k.passed.bytes at j.checked) (sym k.number) (rw k.passed.bytes at (sym ex)) (rw k.passed.bytes at (sym ey))
    c.delay.result.0 c.delay-2.result.0 (rw k.passed.bytes at c.delay.ensures) (rw k.passed.bytes at c.delay-2.ensures) (search rules) in
    (f.0, f.1, c.places-places.ensures.0 ∙ f.2, rw c.places-places.ensures.0 f.3)
