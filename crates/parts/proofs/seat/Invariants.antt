-- `parts::seat` meets its contract; the loop's invariant is that the repeaters passed have their seats.
use Rattle.net.specs.Net.{net_by}
use Rattle.parts.specs.Seats.{SeatedTo}
use Rattle.parts.proofs.seat.Given as goal

abbrev pub invariant-loop-r : goal.invariant-loop-r
invariant-loop-r l = SeatedTo (net_by l.job.counts l.job.bytes.now) l.r l.seats
