-- The loop has the sizings with the indices passed, and each call has fewer places left.
use mathlib.Core.Path.{◌≡◌}
use Prim.Native.Nat.{ℕ}
use lib.ListN.{set}
use Rattle.place.specs.Figures.{loads}
use Rattle.envelope.specs.Kept.{found_of, SameSpace}
use Rattle.free.specs.ByTables.{net_of}
use Rattle.free.proofs.Turns.{Turning}
use Rattle.search.proofs.+search.Given as goal

abbrev pub decreases-search : goal.decreases-search
decreases-search l = l.left

abbrev pub invariant-loop-k : goal.invariant-loop-k
invariant-loop-k l = record {
  turning : Turning (net_of l.tables) l.tables.bounds.lower.now l.tables.bounds.upper.now l.t l.initial.x (found_of l.initial.kept) l.x l.k (found_of l.kept);
  same_space : SameSpace l.initial.kept l.kept;
  same_loads : (v : ℕ) → set (loads l.gathered) l.node v ≡ set (loads l.initial.gathered) l.node v;
}
