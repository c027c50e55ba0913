-- `segments::segments_fit` meets its contract: the fields of each segment before k are in range, and `ends` says whether each has a sink or branches.
use mathlib.Core.Path.{◌≡◌}
use Rattle.lattice.specs.Lists.{every}
use Rattle.lattice.proofs.Every.{Going}
use Rattle.segments.specs.Tests.{segment_fits, sink_or_branch, OwnWeights}
use Rattle.segments.proofs.segments_fit.Given as goal

abbrev pub invariant-loop-k : goal.invariant-loop-k
invariant-loop-k l =
    let b = l.run.bytes.now in
    let start = l.run.start in
    let n = l.run.count in
    record {
      fields : Going n (segment_fits b l.counts start) l.k;
      ends : l.ends ≡ every l.k (sink_or_branch b l.first start n);
      own : OwnWeights b start l.k l.weights;
    }
