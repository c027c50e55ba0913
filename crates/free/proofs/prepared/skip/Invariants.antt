-- The loop has the positions passed.
use mathlib.Core.Path.{◌≡◌}
use lib.ListN.{length}
use Rattle.free.specs.Searching.{SkipsTo}
use Rattle.free.proofs.prepared.skip.Given as goal

abbrev pub invariant-loop-t : goal.invariant-loop-t
invariant-loop-t l = record {
  skipped : SkipsTo l.bounds.lower.now l.bounds.upper.now l.t l.skips;
  long : length l.skips ≡ 77;
}
