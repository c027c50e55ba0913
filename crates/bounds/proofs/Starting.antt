-- The first index at each place, seen from a side, is where refining starts: what the loop that puts them there knows.
use mathlib.Core.Path.{◌≡◌}
use mathlib.Core.List.{List}
use Prim.Native.Nat.{ℕ, ◌≤◌, ◌<◌}
use native.Mathlib.Omega.{arith}
use lib.ListN.{length}
use Rattle.lattice.specs.Side.{Side, below, above, Order}
use Rattle.lattice.specs.Lists.{at}
use Rattle.lattice.specs.Space.{Allowed, Before, Boxed, within}
use Rattle.lattice.specs.Refine.{Approaching}
use Rattle.lattice.proofs.Refining.{first-approaching}
use Rattle.net.specs.Driving.{Driving, allowed_by, delay_by}
use Rattle.net.proofs.InOrder.{allowed-by, driving-lattice}
use Rattle.bounds.specs.Sweep.{first_at}

-- a range that is not empty has its first index, which comes before every other
first-within : (s : Side) (net : Driving) (p : ℕ) → net.lowest p ≤ net.highest p → (net.lowest p ≤ first_at s net p) × (first_at s net p ≤ net.highest p)
first-within below net p h = omega arith
first-within above net p h = omega arith

first-order : (s : Side) (net : Driving) (p k : ℕ) → net.lowest p ≤ k → k ≤ net.highest p → Order s (first_at s net p) k
first-order below net p k l h = l
first-order above net p k l h = h

-- the first p places of x have their first index
pub record Starting (s : Side) (net : Driving) (x : List ℕ) (p : ℕ) : Type 0 where
  pub up_to : p ≤ net.places
  pub long : length x ≡ net.places
  pub firsts : (q : ℕ) → q < p → at x q ≡ first_at s net q

-- past the last place
pub starting-end : (s : Side) (net : Driving) (x : List ℕ) (p : ℕ) → ((q : ℕ) → q < net.places → net.lowest q ≤ net.highest q) → Starting s net x p → net.places ≤ p
    → Approaching s (allowed_by net) (delay_by net) x
unfolding within
starting-end s net x p ranges i h = first-approaching (driving-lattice net) (delay_by net) s x ((allowed-by net x).1 box) first
  where
    here : (q : ℕ) → q < net.places → at x q ≡ first_at s net q
    here q l = i.firsts q (omega arith)

    box : Boxed net.places net.lowest net.highest x
    box =
        record {
          long = i.long;
          low = λ q l. rw (here q l) (first-within s net q (ranges q l)).0;
          high = λ q l. rw (here q l) (first-within s net q (ranges q l)).1;
        }

    first : (y : List ℕ) → Allowed (allowed_by net) y → Before s net.places x y
    first y a q l = let z = (allowed-by net y).0 a in rw (here q l) (first-order s net q (at y q) (z.low q l) (z.high q l))
