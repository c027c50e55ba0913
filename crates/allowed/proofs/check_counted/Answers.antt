-- `allowed::check_counted` meets its contract: each way through is the first question that fails, or none.
use Rattle.std.proofs.Common.{sym, arith}
use Rattle.net.specs.Net.{net_by}
use Rattle.allowed.proofs.Numbers.{number_short, number-long}
use Rattle.allowed.proofs.check_counted.Goals as goal

pub returns-then-sizing-places : goal.returns-then-sizing-places
returns-then-sizing-places c =
    let records = c.args.records.now in
    sym (number_short (net_by records.counts records.bytes.now) c.args.sizing.now (omega arith))

pub returns : goal.returns
returns c =
    let records = c.args.records.now in
    rw (number-long (net_by records.counts records.bytes.now) c.args.sizing.now (omega arith), ← c.in_ranges.ensures) c.require.ensures
