-- `nodes::count_up` meets its contract; the loop's invariant is that the branches of the segments passed are in the table.
use Rattle.net.specs.Net.{net_by}
use Rattle.nodes.proofs.Counting.{CountedFrom}
use Rattle.nodes.proofs.count_up.Given as goal

abbrev pub invariant-loop-i : goal.invariant-loop-i
invariant-loop-i l = CountedFrom (net_by l.net.sized.job.counts l.net.sized.job.bytes.now) l.net.sized.sizing.now l.i l.nodes
