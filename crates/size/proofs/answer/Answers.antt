-- `size::answer` meets its contract: each way through question 14 is the definition. The bounds never cross, so the room between them can be counted.
use mathlib.Core.Path.{sym, ◌∙◌}
use native.Mathlib.Omega.{arith}
use Rattle.finish.proofs.Parts.{lower_long, upper_long, given-in-order, positions-among}
use Rattle.size.proofs.Numbers.{number-14, number-0, buffer-14}
use Rattle.size.proofs.answer.Goals as goal

pub room_fits-requires : goal.room_fits-requires
room_fits-requires c =
    let k = c.args.places.now.arranged.job.checked in
    let g = c.requires.bounded_by in
    rw c.places.ensures.0
    record {
      lower_long = omega (arith, lower_long k g);
      upper_long = omega (arith, upper_long k g);
      in_order = given-in-order k g;
    }

pub bounds_only-requires : goal.bounds_only-requires
bounds_only-requires c =
    let k = c.args.places.now.arranged.job.checked in
    let g = c.requires.bounded_by in
    let n = lower_long k g in
    record {
      lower_in_bounds = omega (arith, n, c.requires.counts_in_bounds);
      upper_len = upper_long k g ∙ sym n;
      lower_len_bound = (omega (arith, n, c.places.ensures.1, c.places.ensures.0), positions-among k c.args.bounds.lower.now c.requires.positions_of n);
    }

pub returns-then-not-room_fits-clause-number : goal.returns-then-not-room_fits-clause-number
returns-then-not-room_fits-clause-number c =
    number-14 c.args.places.now.arranged.job.checked c.requires.bounded_by c.room_fits.result (rw c.places.ensures.0 at c.room_fits.ensures) c.if-not-room_fits.true

pub returns-then-not-room_fits-clause-buffer : goal.returns-then-not-room_fits-clause-buffer
returns-then-not-room_fits-clause-buffer c =
    buffer-14 c.args.places.now.arranged.job.checked c.requires.positions_of c.requires.bounded_by c.args.reply.now _ c.bounds_only.ensures

pub returns-clause-number : goal.returns-clause-number
returns-clause-number c =
    number-0 c.args.places.now.arranged.job.checked c.requires.bounded_by c.room_fits.result (rw c.places.ensures.0 at c.room_fits.ensures) c.if-not-room_fits.false
