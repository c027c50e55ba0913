-- `elmore::size_segments` meets its contract; the loop's invariant is that the segments passed are in the table.
use Rattle.net.specs.Net.{net_by}
use Rattle.elmore.specs.Tables.{SizedTo}
use Rattle.elmore.proofs.size_segments.Given as goal

abbrev pub invariant-loop-i : goal.invariant-loop-i
invariant-loop-i l = SizedTo (net_by l.net.sized.job.counts l.net.sized.job.bytes.now) l.net.sized.sizing.now l.i l.segments
