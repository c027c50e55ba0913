-- Every byte of the largest number is 255.
use lib.ListN.{length}
use Rattle.reply.specs.Records.{of_place}
use Rattle.reply.proofs.Places.{none-known}
use Rattle.reply.proofs.bounds_only.Goals as goal

pub returns : goal.returns
returns c =
    let b = c.args in
    let q = b.position.now in
    rw (c.put.ensures, none-known (length b.bounds.lower.now) q (of_place q b.bounds.lower.now) (of_place q b.bounds.upper.now) c.requires.lower_len_bound.0 c.requires.lower_len_bound.1)
