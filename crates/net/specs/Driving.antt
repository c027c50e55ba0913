-- How the places of a net drive each other, by a number that each has: a driver or a wire, what it hangs at, its table. The code that refines and
-- searches goes by an order in which each place stands after the one that drives it; its number there is called its position, and the contracts of
-- that code cite the words below. `proofs/Positions` shows that they give the delay of `specs/Delay`, so a reader need not believe this file.
use Rattle.std.specs.Prelude.{◌≡◌, Bool, true, cond, List, ℕ, zero, suc, ◌+◌, ◌*◌, ◌^◌, ◌≤◌, ◌<◌, eqb}
use Rattle.lattice.specs.Lists.{at, sum}
use Rattle.lattice.specs.Space.{Space, within, Allowed}

pub record Driving : Type 0 where
  pub places : ℕ
  -- by position: the lowest and the highest index allowed
  pub lowest : ℕ → ℕ
  pub highest : ℕ → ℕ
  -- by position: whether it is a driver, and not a wire
  pub driver : ℕ → Bool
  -- by position: the node that it hangs at, where 0 is before all and `suc t` is behind position t
  pub hangs_at : ℕ → ℕ
  -- by position: the sink at its far end, and the weight of what it adds to the scaled delay
  pub sink : ℕ → ℕ
  pub weight : ℕ → ℕ
  -- by position and index: its resistance, and its own capacitance, of a driver the output
  pub resistance : ℕ → ℕ → ℕ
  pub capacitance : ℕ → ℕ → ℕ
  -- by driver size
  pub gate : ℕ → ℕ

-- The same places by another number: t is what was `order t`.
abbrev pub reordered : (ℕ → ℕ) → Driving → Driving
reordered order d =
    record {
      places = d.places;
      lowest = λ t. d.lowest (order t);
      highest = λ t. d.highest (order t);
      driver = λ t. d.driver (order t);
      hangs_at = λ t. d.hangs_at (order t);
      sink = λ t. d.sink (order t);
      weight = λ t. d.weight (order t);
      resistance = λ t. d.resistance (order t);
      capacitance = λ t. d.capacitance (order t);
      gate = d.gate;
    }

module _ (d : Driving) where
  -- The sizings by position that are allowed.
  abbrev pub allowed_by : Space
  allowed_by = within d.places d.lowest d.highest (λ y. true)

  -- The delay of position t at the index k where it drives the load l: a driver's resistance × (own output + load), a wire's resistance ×
  -- (own capacitance + 2 × load).
  unfoldable pub delay_at : ℕ → ℕ → ℕ → ℕ
  delay_at t k l = d.resistance t k * (d.capacitance t k + cond (d.driver t) l (2 * l))

  -- The load that position t then shows to what drives it: a driver its gate, a wire its capacitance + load.
  unfoldable pub load_at : ℕ → ℕ → ℕ → ℕ
  load_at t k l = cond (d.driver t) (d.gate k) (d.capacitance t k + l)

  -- What the index k costs at position t, where it has the weight w, the weighted resistance u upstream, and drives the load l: its own delay, and
  -- what the load that it shows costs upstream.
  abbrev pub cost : (w u t l k : ℕ) → ℕ
  cost w u t l k = w * delay_at t k l + u * load_at t k l

  -- The sum of f over the positions that hang behind position t.
  unfoldable pub behind : (ℕ → ℕ) → ℕ → ℕ
  behind f t = sum d.places (λ u. cond (eqb (d.hangs_at u) (suc t)) (f u) 0)

  -- What the delay of position t, at the index k, grows by with each unit of the load that it drives.
  unfoldable pub slope : ℕ → ℕ → ℕ
  slope t k = d.weight t * cond (d.driver t) (d.resistance t k) (2 * d.resistance t k)

-- What f has for the position before a node, and 0 at the first node.
unfoldable pub before : (ℕ → ℕ) → ℕ → ℕ
before f zero = 0
before f (suc t) = f t

-- Below, y is a sizing by position.
module _ (d : Driving) (y : List ℕ) where
  -- The load that position t drives: its sink, and what those behind it show, to the depth n.
  unfoldable pub driven_to : ℕ → ℕ → ℕ
  driven_to zero t = 0
  driven_to (suc n) t = d.sink t + behind d (λ u. load_at d u (at y u) (driven_to n u)) t

  -- The same to all depths.
  unfoldable pub driven_load : ℕ → ℕ
  driven_load t = driven_to d.places t

  -- The load that position t shows.
  abbrev pub shown_load : ℕ → ℕ
  shown_load t = load_at d t (at y t) (driven_load t)

  -- What position t adds to the scaled delay.
  abbrev pub added_delay : ℕ → ℕ
  added_delay t = d.weight t * delay_at d t (at y t) (driven_load t)

  -- The scaled delay.
  unfoldable pub delay_by : ℕ
  delay_by = sum d.places added_delay

  -- For the positions before n, `upstream` has the weighted resistance upstream: what the delay grows by with each unit of load that a position shows,
  -- through the one that it hangs at and, where that is a wire, through those before it. A driver shows its gate, so nothing goes beyond it.
  pub record UpstreamTo (n : ℕ) (upstream : ℕ → ℕ) : Type 0 where
    pub held : (t : ℕ) → t < n → t < d.places → upstream t ≡ before (λ a. slope d a (at y a) + cond (d.driver a) 0 (upstream a)) (d.hangs_at t)

-- Each place hangs behind an earlier one, the first behind none.
pub record Placed (d : Driving) : Type 0 where
  pub falls : (t : ℕ) → t < d.places → d.hangs_at t ≤ t

-- The limits of the specification, by position, for the indices that each place may have.
pub record InLimits (d : Driving) : Type 0 where
  pub few : d.places ≤ 76
  pub indices : (t : ℕ) → t < d.places → d.highest t < 16
  pub weights : (t : ℕ) → t < d.places → d.weight t ≤ 32640
  pub slopes : (t k : ℕ) → t < d.places → k ≤ d.highest t → slope d t k ≤ 6528000000
  pub delays : (t k l : ℕ) → t < d.places → k ≤ d.highest t → l ≤ 13700000 → delay_at d t k l ≤ 2750000000000
  pub shows : (t k l : ℕ) → t < d.places → k ≤ d.highest t → l ≤ 13700000 → load_at d t k l ≤ 13800000
  pub drives : (y : List ℕ) → Allowed (allowed_by d) y → (t : ℕ) → t < d.places → driven_load d y t ≤ 13700000
  pub fits : (y : List ℕ) → Allowed (allowed_by d) y → delay_by d y < 2 ^ 63
