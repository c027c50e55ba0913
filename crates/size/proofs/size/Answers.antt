-- `size::size` meets its contract: each way through it is the definition.
use mathlib.Core.Path.{sym, ◌∙◌}
use native.Mathlib.Omega.{arith}
use Rattle.std.proofs.lemmas.Result.{err_from_is_err_and}
use Rattle.size.proofs.Numbers.{size-job, size-12, size-answer}
use Rattle.size.proofs.size.Goals as goal

pub returns-in_err-job-clause-number : goal.returns-in_err-job-clause-number
returns-in_err-job-clause-number c =
    let p = err_from_is_err_and c.from_residual.result c.from_residual.ensures.1 in
    rw (p.1, p.2) (size-job c.args.job.now c.args.reply.now c.in_err-job.field-0.0.refusal c.in_err-job.ensures.number).0

pub returns-in_err-job-clause-buffer : goal.returns-in_err-job-clause-buffer
returns-in_err-job-clause-buffer c = (size-job c.args.job.now c.args.reply.now c.in_err-job.field-0.0.refusal c.in_err-job.ensures.number).1.0

pub returns-in_err-job-clause-promises : goal.returns-in_err-job-clause-promises
returns-in_err-job-clause-promises c =
    let p = err_from_is_err_and c.from_residual.result c.from_residual.ensures.1 in
    rw (p.1, p.2) (size-job c.args.job.now c.args.reply.now c.in_err-job.field-0.0.refusal c.in_err-job.ensures.number).1.1

pub returns-then-reply-places : goal.returns-then-reply-places
returns-then-reply-places c =
    let k = c.in_ok-job.ensures in
    let s = size-12 c.args.job.now c.args.reply.now (rw k.passed.bytes at c.in_ok-job.field-0.job.checked) (sym k.number) (omega (arith, c.places-places.ensures.0)) in
    record { number = s.0; buffer = s.1.0; promises = s.1.1; counts = k.passed.counted }

pub returns : goal.returns
returns c =
    let k = c.in_ok-job.ensures in
    let r = c.bound_and_answer in
    let s = size-answer c.args.job.now c.args.reply.now (rw k.passed.bytes at c.in_ok-job.field-0.job.checked) (sym k.number) _ _
    (omega (arith, c.places-places.ensures.0)) (rw k.passed.bytes at r.ensures.number) (rw k.passed.bytes at r.ensures.buffer) in
    record { number = s.0; buffer = s.1.0; promises = s.1.1; counts = r.ensures.counts ∙ k.passed.counted }
