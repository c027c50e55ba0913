-- `kinds::count_layer0` meets its contract: the loop has counted those before k.
use mathlib.Core.Path.{◌≡◌}
use Prim.Native.Nat.{◌≤◌}
use Rattle.kinds.specs.Counted.{layer0_in}
use Rattle.kinds.proofs.count_layer0.Given as goal

abbrev pub invariant-loop-k : goal.invariant-loop-k
invariant-loop-k l = (l.count ≡ layer0_in l.bytes l.k) × (l.count ≤ l.k)
