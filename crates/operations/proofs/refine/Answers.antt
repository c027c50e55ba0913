-- `operations::refine` meets its contract: each way through it is the definition.
use mathlib.Core.Path.{sym}
use native.Mathlib.Omega.{arith}
use borrow.Author.Tests.{ltb-true, ltb-false}
use lib.Seq.{length-take-le}
use Rattle.std.proofs.lemmas.Result.{err_from_is_err_and}
use Rattle.net.proofs.Questions.{allowed-ranges}
use Rattle.allowed.proofs.Numbers.{number-ranges}
use Rattle.refusal.specs.declared.Refusal.TheVariants.{Place}
use Rattle.operations.proofs.Cases.{required-passed, required-failed, sizing-allowed, refine-job, refine-sizing, refine-place, refine-answer}
use Rattle.operations.proofs.refine.Goals as goal

pub returns-in_err-job : goal.returns-in_err-job
returns-in_err-job c =
    let p = err_from_is_err_and c.from_residual.result c.from_residual.ensures.1 in
    rw (p.1, p.2) (refine-job c.args.job.now c.args.sizing.now c.args.place c.in_err-job.field-0.0.refusal c.in_err-job.ensures.number)

pub returns-in_err-check_sizing : goal.returns-in_err-check_sizing
returns-in_err-check_sizing c =
    let k = c.in_ok-job.ensures in
    let p = err_from_is_err_and c.from_residual-in_err-check_sizing.result c.from_residual-in_err-check_sizing.ensures.1 in
    rw (p.1, p.2)
    (refine-sizing c.args.job.now c.args.sizing.now (rw k.passed.bytes at c.in_ok-job.field-0.job.checked) (sym k.number) c.args.place
    c.in_err-check_sizing.field-0.0 (rw k.passed.bytes at c.in_err-check_sizing.ensures))

pub returns-in_err-require : goal.returns-in_err-require
returns-in_err-require c =
    let k = c.in_ok-job.ensures in
    let p = err_from_is_err_and c.from_residual-in_err-require.result c.from_residual-in_err-require.ensures.1 in
    let f = required-failed _ c.in_err-require.field-0.0 Place c.in_err-require.ensures in
    let h = ltb-false c.args.place c.places-places.result f.0 in
    rw (p.1, p.2)
    (refine-place c.args.job.now c.args.sizing.now (rw k.passed.bytes at c.in_ok-job.field-0.job.checked) (sym k.number) c.args.place
    c.in_err-require.field-0.0 f.1 (sym (rw k.passed.bytes at c.in_ok-check_sizing.ensures)) (omega arith))

pub slice_bounds-net-end : goal.slice_bounds-net-end
slice_bounds-net-end c =
    sym (length-take-le c.places-places.result c.args.sizing.now (omega (arith, (number-ranges _ c.args.sizing.now (sym c.in_ok-check_sizing.ensures)).long)))

pub invariant_of-net : goal.invariant_of-net
invariant_of-net c =
    let j = c.in_ok-job.field-0.job in
    record {
      ready = record {
        checked = j.checked;
        in_ranges = allowed-ranges _ _ (rw c.places-places.ensures.0 (sizing-allowed _ c.args.sizing.now (sym c.in_ok-check_sizing.ensures)));
      };
    }

pub refine_at-requires-clause-allowed_by : goal.refine_at-requires-clause-allowed_by
refine_at-requires-clause-allowed_by c = rw c.places-places.ensures.0 (sizing-allowed _ c.args.sizing.now (sym c.in_ok-check_sizing.ensures))

pub returns : goal.returns
returns c =
    let k = c.in_ok-job.ensures in
    let h = ltb-true c.args.place c.places-places.result (required-passed _ Place c.in_ok-require.ensures) in
    refine-answer c.args.job.now c.args.sizing.now (rw k.passed.bytes at c.in_ok-job.field-0.job.checked) (sym k.number) c.args.place c.refine_at.result
    (sym (rw k.passed.bytes at c.in_ok-check_sizing.ensures)) (omega arith) (rw (c.places-places.ensures.0, k.passed.bytes) at c.refine_at.ensures)
