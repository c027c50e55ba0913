-- `bounds::room_fits` meets its contract: the loop knows the product of the places passed, which is at most that of all.
use Rattle.std.proofs.Common.{◌-◌}
use Rattle.lattice.specs.Lists.{at}
use Rattle.bounds.proofs.Counting.{Counting}
use Rattle.bounds.proofs.room_fits.Given as goal

abbrev pub invariant-loop-p : goal.invariant-loop-p
invariant-loop-p l = Counting (λ q. at l.bounds.upper.now q - at l.bounds.lower.now q) l.n l.room l.p
