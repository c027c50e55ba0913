-- `sinks::count` meets its contract: the product is compared with its own whole part.
use Rattle.std.proofs.Common.{T, rules, arith}
use lib.Ieee.{fits, binary64, of_bits}
use Rattle.sinks.proofs.Counts.{whole-counts-as}
use Rattle.sinks.proofs.count.Goals as goal

pub returns : goal.returns
unfolding of_bits
returns c =
    let t : T (fits binary64 c.args.sink.weight) = search rules in
    rw (c.then_some.ensures, c.saturating_f64_to_u8-whole.ensures) (whole-counts-as c.args.sink.weight t (omega arith))
