-- The driving order of a net: stages, then each segment and directly behind it its repeater if it has one. `proofs/Order` shows that this is a
-- numbering of the places and that each stands after the one that drives it, `proofs/Positions` that the delay by position is the delay of
-- `specs/Delay`, so a reader need not believe this file.
use Rattle.std.specs.Prelude.{◌≡◌, Bool, true, false, cond, List, ℕ, suc, ◌+◌, ◌*◌, ◌≤◌, ◌<◌, eqb, ltb, length}
use Rattle.lattice.specs.Lists.{at, sum}
use Rattle.lattice.specs.Numbering.{arranged}
use Rattle.net.specs.declared.Counts.{Counts}
use Rattle.net.specs.Net.{Net, places, net_by}
use Rattle.net.specs.Segments.{weight_below, weight_behind, total_weight}
use Rattle.net.specs.Places.{by_kind}
use Rattle.net.specs.Driving.{Driving, reordered}

module _ (net : Net) where
  -- How many places stand before segment q: all stages, and the segments before it with their repeaters. The branches at the node q hang behind the
  -- last of these.
  unfoldable pub places_before : ℕ → ℕ
  places_before q = net.stages + q + sum net.repeaters (λ r. cond (ltb (net.site r) q) 1 0)

  -- The position of place p.
  abbrev pub position : ℕ → ℕ
  position p = by_kind net (λ s. s) places_before (λ r. suc (places_before (net.site r))) p

  -- The place at position t: the one that has it.
  unfoldable pub order : ℕ → ℕ
  order t = sum (places net) (λ p. cond (eqb (position p) t) p 0)

  -- The sizing x by position.
  abbrev pub by_position : List ℕ → List ℕ
  by_position x = arranged (places net) order x

  -- Is place p a driver, and not a wire?
  abbrev pub is_driver : ℕ → Bool
  is_driver p = by_kind net (λ s. true) (λ i. false) (λ r. true) p

  -- The weight of the sinks that place p drives, its own sink's with it.
  abbrev pub weight_driven : ℕ → ℕ
  weight_driven p = by_kind net (λ s. total_weight net) (weight_below net) (λ r. weight_behind net (net.site r)) p

  -- What each place is and what it hangs at, by place; the node that it hangs at is counted by position. A stage hangs behind the stage before it, a
  -- segment at the node that it has as its parent, a repeater behind its segment. A driver's weight is twice that of the sinks behind it, a wire's
  -- that of the sinks at or below its far end.
  abbrev pub by_place : Driving
  by_place =
      record {
        places = places net;
        lowest = net.lowest;
        highest = net.highest;
        driver = is_driver;
        hangs_at = λ p. by_kind net (λ s. s) (λ i. places_before (net.parent i)) (λ r. suc (places_before (net.site r))) p;
        sink = λ p. by_kind net (λ s. 0) net.sink (λ r. 0) p;
        weight = λ p. cond (is_driver p) (2 * weight_driven p) (weight_driven p);
        resistance = λ p k. by_kind net (λ s. net.driver_resistance k) (λ i. net.wire_resistance i k) (λ r. net.driver_resistance k) p;
        capacitance = λ p k. by_kind net (λ s. net.output k) (λ i. net.wire_capacitance i k) (λ r. net.output k) p;
        gate = net.gate;
      }

  -- The net in its driving order.
  abbrev pub driving : Driving
  driving = reordered order by_place

-- The same of the net of a job, by the counts of its records and its bytes: by place, and by position.
abbrev pub placed_by : Counts → List ℕ → Driving
placed_by c b = by_place (net_by c b)

abbrev pub driving_by : Counts → List ℕ → Driving
driving_by c b = driving (net_by c b)

-- What a loop that puts the places in order has after k of them: the first k of `orders` are the places in driving order, and `positions` says where each
-- of them stands.
pub record InOrder (net : Net) (k : ℕ) (orders positions : List ℕ) : Type 0 where
  pub long : places net ≤ length orders
  pub wide : places net ≤ length positions
  pub ordered : (t : ℕ) → t < k → at orders t ≡ order net t
  pub stands : (t : ℕ) → t < k → at positions (order net t) ≡ t

-- Of the places that stand in front of the repeaters, those from `start` to `end`, the end left out, stand `passed` positions further on than their
-- numbers say: that many repeaters sit before them, and the others at the last of them or behind it.
pub record Run (net : Net) (start end passed : ℕ) : Type 0 where
  pub few : passed ≤ net.repeaters
  pub rise : start ≤ end
  pub within : end ≤ net.stages + net.segments
  pub before : (r : ℕ) → r < passed → net.stages + net.site r < start
  pub after : (r : ℕ) → passed ≤ r → r < net.repeaters → end ≤ suc (net.stages + net.site r)
