-- What is found is what is written.
use mathlib.Core.Path.{sym, ◌∙◌}
use native.Mathlib.Omega.{arith}
use Rattle.finish.proofs.Parts.{lower_long, upper_long, positions-among, buffer-0}
use Rattle.finish.proofs.find_and_write.Goals as goal

pub finished-requires-clause-lower_in_bounds : goal.finished-requires-clause-lower_in_bounds
finished-requires-clause-lower_in_bounds c = omega (arith, lower_long c.args.places.now.arranged.job.checked c.requires.bounded_by, c.requires.counts_in_bounds)

pub finished-requires-clause-lower_len_bound : goal.finished-requires-clause-lower_len_bound
finished-requires-clause-lower_len_bound c =
    let k = c.args.places.now.arranged.job.checked in
    let n = lower_long k c.requires.bounded_by in
    (omega (arith, n, k.few_stages, k.few_segments, k.few_repeaters), positions-among k c.args.bounds.lower.now c.requires.positions_of n)

pub finished-requires-clause-upper_len : goal.finished-requires-clause-upper_len
finished-requires-clause-upper_len c =
    let k = c.args.places.now.arranged.job.checked in
    upper_long k c.requires.bounded_by ∙ sym (lower_long k c.requires.bounded_by)

pub finished-requires-clause-lean_len : goal.finished-requires-clause-lean_len
finished-requires-clause-lean_len c =
    c.least-delay.auto.lean ∙ c.requires.for_places.1 ∙ sym (lower_long c.args.places.now.arranged.job.checked c.requires.bounded_by)

pub finished-requires-clause-wide_len : goal.finished-requires-clause-wide_len
finished-requires-clause-wide_len c =
    c.least-delay.auto.wide ∙ c.requires.for_places.2 ∙ sym (lower_long c.args.places.now.arranged.job.checked c.requires.bounded_by)

pub returns : goal.returns
returns c =
    let k = c.args.places.now.arranged.job.checked in
    buffer-0 k c.requires.positions_of c.requires.bounded_by c.args.reply.now _ _ _ _ c.least-delay.ensures c.finished.ensures
