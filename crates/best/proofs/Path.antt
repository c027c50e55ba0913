-- The resistance upstream of a position, summed up along its path, where every place is held; and that a table of these resistances exists.
use mathlib.Core.Path.{◌≡◌, refl}
use mathlib.Core.Bool.{true, false}
use mathlib.Core.List.{List}
use Prim.Native.Nat.{ℕ, zero, suc, ◌+◌, ◌*◌, ◌≤◌, ◌<◌}
use native.Mathlib.Numerals.{add-one}
use native.Mathlib.Omega.{arith}
use lib.ListN.{set, replicate, length-replicate}
use Rattle.lattice.specs.Lists.{at}
use Rattle.lattice.specs.Space.{Allowed}
use Rattle.net.specs.Driving.{Driving, allowed_by, slope, before, Placed, InLimits}
use Rattle.net.proofs.InOrder.{allowed-by}
use Rattle.place.specs.Held.{onward, UpstreamTo}
use Rattle.place.proofs.Upstream.{before-none, onward-driver, onward-wire, before-start, before-step, onward-reads}

-- What the loop knows at a node of the path: the sum of what it passed, and that with what is upstream of the node it is all.
pub record Climbed (net : Driving) (x : List ℕ) (t node sum : ℕ) : Type 0 where
  pub below : node ≤ t
  pub small : sum + node * 6528000000 ≤ t * 6528000000
  pub rest : (u : List ℕ) → UpstreamTo net x x (suc t) u → sum + before (onward net x x u) node ≡ at u t

module _ (net : Driving) (o : Placed net) (l : InLimits net) (x : List ℕ) (low : Allowed (allowed_by net) x) (t : ℕ) (few : t < net.places) where
  pub climbed-start : Climbed net x t (net.hangs_at t) 0
  climbed-start =
      let f = o.falls t few in
      record {
        below = f;
        small = omega arith;
        rest = λ u i. omega (arith, i.held t (omega arith) few);
      }

  pub climbed-top : (node sum : ℕ) → Climbed net x t node sum → node ≡ 0 → (u : List ℕ) → UpstreamTo net x x (suc t) u → sum ≡ at u t
  climbed-top node sum i e u k = omega (arith, i.rest u k, before-none (onward net x x u) node e)

  -- where the node is behind position a, which has the slope s
  module _ (a sum s : ℕ) (i : Climbed net x t (suc a) sum) (e : s ≡ slope net a (at x a)) where
    inside : a < net.places
    inside = omega (arith, i.below)

    own-small : s ≤ 6528000000
    own-small = rw e (l.slopes a (at x a) inside (((allowed-by net x).0 low).high a inside))

    pub climbed-fits : sum + s ≤ 496128000000
    climbed-fits = omega (arith, i.small, own-small, few, l.few)

    rest-behind : (u : List ℕ) → UpstreamTo net x x (suc t) u → sum + onward net x x u a ≡ at u t
    unfolding before
    rest-behind u k = i.rest u k

    -- nothing goes beyond a driver
    pub climbed-driver : net.driver a ≡ true → (u : List ℕ) → UpstreamTo net x x (suc t) u → sum + s ≡ at u t
    climbed-driver d u k = omega (arith, rest-behind u k, e, onward-driver net x x u a (omega arith) d)

    pub climbed-wire : net.driver a ≡ false → Climbed net x t (net.hangs_at a) (sum + s)
    climbed-wire d =
        let f = o.falls a inside in
        record {
          below = omega (arith, i.below, f);
          small = omega (arith, i.small, own-small, f);
          rest = λ u k. omega (arith, rest-behind u k, e, onward-wire net x x u a (omega arith) d, k.held a (omega (arith, i.below)) inside);
        }

-- The resistances upstream of the first n places are in some table.
pub some-upstream : (net : Driving) → Placed net → (x : List ℕ) (n : ℕ) → n ≤ net.places → (u : List ℕ) × UpstreamTo net x x n u
some-upstream net o x zero h = (replicate net.places 0, before-start net _ _ (omega (arith, length-replicate {A = ℕ} net.places 0)))
some-upstream net o x (suc n) h =
    let s = some-upstream net o x n (omega arith) in (
      set s.0 n (before (onward net x x s.0) (net.hangs_at n)),
      rw (add-one n) at (before-step net o _ (onward-reads net x x) s.0 n _ (omega arith) s.1 refl),
    )
