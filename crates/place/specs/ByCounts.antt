-- What the contracts of this crate and of those above it say, of the net of a job, by the counts of its records and its bytes. What one place adds is
-- said of the place p by its number in the job; tables and sizings go by position.
use Rattle.std.specs.Prelude.{◌≡◌, false, List, ℕ, ◌+◌, ◌*◌, ◌^◌, ◌≤◌, ◌<◌, length}
use Rattle.lattice.specs.Space.{Allowed}
use Rattle.quantity.specs.declared.Capacitance.{Capacitance}
use Rattle.quantity.specs.declared.Resistance.{Resistance}
use Rattle.net.specs.declared.Counts.{Counts}
use Rattle.net.specs.Job.{places_by, size_resistance, size_gate, size_output}
use Rattle.net.specs.Net.{net_by}
use Rattle.net.specs.Driving.{allowed_by, slope, before}
use Rattle.net.specs.Order.{placed_by, driving_by}
use Rattle.job.specs.Tables.{TableOf}
use Rattle.job.specs.Ranges.{driver_at}
use Rattle.positions.specs.declared.Bounds.{Bounds}
use Rattle.place.specs.declared.PlaceStep.{PlaceStep}
use Rattle.place.specs.declared.Spot.{Spot}
use Rattle.place.specs.Figures.{loads, resistances}
use Rattle.place.specs.Partial.{StepOf, WeightsFrom}
use Rattle.place.specs.Held.{fixed_from, onward, DrivenFrom, UpstreamTo}

module _ (c : Counts) (b : List ℕ) where
  -- `weights` has the weights of the positions from t on, and of all of them.
  abbrev pub WeighedFrom : ℕ → List ℕ → Type 0
  WeighedFrom t weights = WeightsFrom (driving_by c b) t weights

  abbrev pub Weighed : List ℕ → Type 0
  Weighed weights = WeighedFrom 0 weights

  -- y is an allowed sizing by position.
  abbrev pub AllowedInOrder : List ℕ → Type 0
  AllowedInOrder y = Allowed (allowed_by (driving_by c b)) y

  -- Two sizings: the lower is allowed, and each has an index for each place, the lower since it is allowed.
  pub record BoundsOf (bounds : Bounds) : Type 0 where
    pub lower : AllowedInOrder bounds.lower.now
    pub lower_long : places_by c ≤ length bounds.lower.now
    pub upper_long : places_by c ≤ length bounds.upper.now

  -- The sink at the far end of place p has the capacitance l.
  abbrev pub SinkAt : ℕ → ℕ → Type 0
  SinkAt p l = (l ≡ (placed_by c b).sink p) × (l ≤ 100000)

  -- Place p may have the index k, and the load l that it drives is in the limits.
  abbrev pub DriveInLimits : ℕ → ℕ → ℕ → Type 0
  DriveInLimits p k l = (p < places_by c) × (k ≤ (net_by c b).highest p) × (l ≤ 13700000)

  -- Place p may have the index k, and has the weight w.
  abbrev pub IndexAndWeight : ℕ → ℕ → ℕ → Type 0
  IndexAndWeight w p k = (p < places_by c) × (k ≤ (net_by c b).highest p) × (w ≡ (placed_by c b).weight p)

  -- r is what the delay of place p, at the index k, grows by with each unit of the load that it drives.
  abbrev pub SlopeAt : ℕ → ℕ → ℕ → Type 0
  SlopeAt p k r = (r ≡ slope (placed_by c b) p k) × (r ≤ 6528000000)

  -- s is what the steps of place p need, where it has the weight w and the resistance u upstream.
  pub record SpotOf (w u p : ℕ) (s : Spot) : Type 0 where
    pub place : s.place ≡ p
    pub table : TableOf c b p s.table
    pub weight : s.weight ≡ w
    pub before : s.before.0 ≡ u

  -- Place p may have the index k, and its weight w, the resistance u upstream and the load l that it drives are in the limits.
  abbrev pub StepInLimits : (w u p k l : ℕ) → Type 0
  StepInLimits w u p k l = (p < places_by c) × (k ≤ (net_by c b).highest p) × (w ≤ 32640) × (u ≤ 496128000000) × (l ≤ 13700000)

  -- r is the step of place p to the index k, with that weight, resistance and load.
  abbrev pub Stepped : (w u p k l : ℕ) → PlaceStep → Type 0
  Stepped w u p k l r = StepOf (placed_by c b) w u p k l r

  -- The same limits for a step of a wire.
  abbrev pub WireInLimits : (w u p k l : ℕ) → Type 0
  WireInLimits w u p k l = (driver_at c p ≡ false) × StepInLimits w u p k l

  module _ (lower upper : List ℕ) where
    -- `driven` has what the places drive where the free ones show no load.
    abbrev pub Driven : List Capacitance → Type 0
    Driven driven = DrivenFrom (driving_by c b) lower upper 0 (loads driven)

    -- What all held places add to the delay.
    abbrev pub fixed_delay : List Capacitance → ℕ
    fixed_delay driven = fixed_from (driving_by c b) lower upper (loads driven) 0

    -- What the delay grows by with each unit of load behind place a, and with each that place p shows.
    abbrev pub onward_from : List Resistance → ℕ → ℕ
    onward_from upstream a = onward (driving_by c b) lower upper (resistances upstream) a

    abbrev pub upstream_of : List Resistance → ℕ → ℕ
    upstream_of upstream p = before (onward_from upstream) ((driving_by c b).hangs_at p)

    -- `upstream` has that of the first n places.
    abbrev pub Upstream : ℕ → List Resistance → Type 0
    Upstream n upstream = UpstreamTo (driving_by c b) lower upper n (resistances upstream)

-- The same limits for a step of a driver to the size k.
abbrev pub DriverInLimits : Counts → (w u k l : ℕ) → Type 0
DriverInLimits c w u k l = (k < c.sizes) × (w ≤ 32640) × (u ≤ 496128000000) × (l ≤ 13700000)

-- A resistance u upstream, a weighted delay d and a load l in the limits.
abbrev pub ChargeInLimits : (u d l : ℕ) → Type 0
ChargeInLimits u d l = (u ≤ 496128000000) × (d ≤ 89760000000000000) × (l ≤ 13800000)

-- r is the step of a driver to the size k.
pub record DriverStepped (c : Counts) (b : List ℕ) (w u k l : ℕ) (r : PlaceStep) : Type 0 where
  pub delay : r.delay.0 ≡ w * (size_resistance c b k * (size_output c b k + l)) + u * size_gate c b k
  pub load : r.load.0 ≡ size_gate c b k
  pub fits : r.delay.0 < 2 ^ 63

-- r has that load, and the delay with what the load costs upstream.
abbrev pub Charged : (u d l : ℕ) → PlaceStep → Type 0
Charged u d l r = (r.delay.0 ≡ d + u * l) × (r.load.0 ≡ l) × (r.delay.0 < 2 ^ 63)
