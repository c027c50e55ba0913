-- The tables of the driving order: what the contracts of this crate and of those above it ask of them.
use Rattle.std.specs.Prelude.{◌≡◌, List, ℕ, ◌≤◌, ◌<◌, length}
use Rattle.lattice.specs.Lists.{at}
use Rattle.net.specs.declared.Counts.{Counts}
use Rattle.net.specs.Job.{places_by}
use Rattle.net.specs.Net.{places, net_by}
use Rattle.net.specs.Order.{position, order, placed_by, driving_by, InOrder}

-- Each of the first n of `orders` is below m.
pub record Among (n m : ℕ) (orders : List ℕ) : Type 0 where
  pub among : (t : ℕ) → t < n → at orders t < m

module _ (c : Counts) (b : List ℕ) where
  -- All places are in order.
  abbrev pub AllInOrder : List ℕ → List ℕ → Type 0
  AllInOrder orders positions = InOrder (net_by c b) (places (net_by c b)) orders positions

  -- Place p hangs at the node q.
  abbrev pub HangsAt : ℕ → ℕ → Type 0
  HangsAt p q = q ≡ (placed_by c b).hangs_at p

  -- `order` has the place at each position.
  pub record PlacesInOrder (orders : List ℕ) : Type 0 where
    pub long : places_by c ≤ length orders
    pub held : (t : ℕ) → t < places_by c → at orders t ≡ order (net_by c b) t

  -- `positions` has the position of each place.
  pub record PositionsOf (positions : List ℕ) : Type 0 where
    pub long : places_by c ≤ length positions
    pub held : (p : ℕ) → p < places_by c → at positions p ≡ position (net_by c b) p

  -- `hangs` has the node that each position hangs at.
  pub record NodesOf (hangs : List ℕ) : Type 0 where
    pub long : places_by c ≤ length hangs
    pub held : (t : ℕ) → t < places_by c → at hangs t ≡ (driving_by c b).hangs_at t
