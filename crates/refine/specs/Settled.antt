-- Both ends of the tie at a place: by what its indices cost, and as the best indices of a sizing.
use Rattle.std.specs.Prelude.{◌≡◌, List, ℕ, suc, ◌^◌, ◌≤◌, ◌<◌}
use Rattle.lattice.specs.Side.{Side, below, above}
use Rattle.lattice.specs.Cheapest.{Cheapest}
use Rattle.lattice.specs.Refine.{best}
use Rattle.net.specs.declared.Counts.{Counts}
use Rattle.net.specs.Job.{places_by}
use Rattle.net.specs.Driving.{Driving, allowed_by, delay_by, cost}
use Rattle.refine.specs.declared.Ends.{Ends}

-- The end that is taken from s: from below the smallest index, from above the largest.
abbrev pub end_from : Side → Ends → ℕ
end_from below r = r.lowest
end_from above r = r.highest

-- Place p is there, and its weight, the resistance upstream and the load are in the limits.
abbrev pub SettleInLimits : Counts → (w u p d : ℕ) → Type 0
SettleInLimits c w u p d = (p < places_by c) × (w ≤ 32640) × (u ≤ 496128000000) × (d ≤ 13700000)

-- r has the ends of the tie among the indices of place p that cost least, and what they cost.
pub record Settled (net : Driving) (w u p d : ℕ) (r : Ends) : Type 0 where
  pub costs : r.cost.0 ≡ cost net w u p d r.lowest
  pub fits : r.cost.0 < 2 ^ 63
  pub ends : (s : Side) → Cheapest s (net.lowest p) (suc (net.highest p)) (cost net w u p d) (end_from s r)

-- r has the ends of the tie at place p of x: its smallest and its largest best index, the rest of x held.
pub record EndsAt (net : Driving) (x : List ℕ) (p : ℕ) (r : Ends) : Type 0 where
  pub ends : (s : Side) → end_from s r ≡ best s (allowed_by net) (delay_by net) x p
