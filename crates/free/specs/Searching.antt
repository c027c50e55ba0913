-- What the search asks of its tables and its state, and what it leaves: cited by the contracts of this crate.
use Rattle.std.specs.Prelude.{◌≡◌, true, false, cond, Option, Some, None, List, ℕ, suc, ◌+◌, ◌*◌, ◌-◌, ◌^◌, ◌≤◌, ◌<◌, length}
use Rattle.lattice.specs.Lists.{at}
use Rattle.lattice.specs.Space.{Allowed}
use Rattle.lattice.specs.Search.{Found, takes, cover}
use Rattle.net.specs.declared.Counts.{Counts}
use Rattle.net.specs.Job.{places_by}
use Rattle.net.specs.Driving.{Driving, allowed_by, delay_by, shown_load, added_delay, before, cost}
use Rattle.net.specs.Order.{placed_by, driving_by}
use Rattle.net.specs.Checked.{Checked}
use Rattle.positions.specs.Arranged.{PlacesInOrder}
use Rattle.place.specs.Partial.{WeightsFrom}
use Rattle.place.specs.ByCounts.{SpotOf}
use Rattle.place.specs.Held.{BeforeTo, sum_after, free, fixed_from, GatheredFrom, DrivenFrom, UpstreamTo}
use Rattle.free.specs.declared.FreePlace.{FreePlace}

-- `skips` has, for up to n places, how many of them there are up to the last that is free.
pub record SkipsTo (lower upper : List ℕ) (n : ℕ) (skips : List ℕ) : Type 0 where
  pub none : at skips 0 ≡ 0
  pub held : (q : ℕ) → q < n → at skips (suc q) ≡ cond (free lower upper q) (suc q) (at skips q)

module _ (net : Driving) (lower upper : List ℕ) where
  -- The node at which a load behind place a arrives: a held wire passes it on.
  abbrev pub arrives : List ℕ → ℕ → ℕ
  arrives ups a = cond (free lower upper a) (suc a) (cond (net.driver a) (suc a) (at ups a))

  -- `ups` has, for the places before p, the node at which the load of a place arrives.
  abbrev pub UpsTo : ℕ → List ℕ → Type 0
  UpsTo p ups = BeforeTo net arrives p ups

  -- The load that a free place shows.
  abbrev pub free_load : List ℕ → ℕ → ℕ
  free_load x q = cond (free lower upper q) (shown_load net x q) 0

  -- What the free places from p on add to the delay, with what their loads cost upstream.
  abbrev pub priced_from : List ℕ → List ℕ → ℕ → ℕ
  priced_from upstream x p = sum_after net.places (λ q. cond (free lower upper q) (added_delay net x q + at upstream q * shown_load net x q) 0) p

-- Two allowed sizings in order: what a search goes between.
pub record Between (c : Counts) (job lower upper : List ℕ) : Type 0 where
  pub lower_allowed : Allowed (allowed_by (driving_by c job)) lower
  pub upper_allowed : Allowed (allowed_by (driving_by c job)) upper
  pub in_order : (q : ℕ) → q < (driving_by c job).places → at lower q ≤ at upper q

-- What stays the same throughout a search.
pub record Prepared (c : Counts) (job orders weights upstream driven ups skips lower upper : List ℕ) : Type 0 where
  pub checked : Checked c job
  pub ordered : PlacesInOrder c job orders
  pub weighed : WeightsFrom (driving_by c job) 0 weights
  pub known : UpstreamTo (driving_by c job) lower upper (driving_by c job).places upstream
  pub drives : DrivenFrom (driving_by c job) lower upper 0 driven
  pub lifted : UpsTo (driving_by c job) lower upper (driving_by c job).places ups
  pub skipped : SkipsTo lower upper (driving_by c job).places skips
  pub lower_allowed : Allowed (allowed_by (driving_by c job)) lower
  pub upper_allowed : Allowed (allowed_by (driving_by c job)) upper
  pub in_order : (q : ℕ) → q < (driving_by c job).places → at lower q ≤ at upper q

-- The free places from `left` on are sized by x: where their loads arrive, and what they and all held places add to the delay. Both envelopes
-- have an index for each place.
pub record Sized (net : Driving) (lower upper upstream driven ups : List ℕ) (left added : ℕ) (x gathered lean wide : List ℕ) : Type 0 where
  pub few : left ≤ net.places
  pub allowed : Allowed (allowed_by net) x
  pub held : (q : ℕ) → q < net.places → free lower upper q ≡ false → at x q ≡ at lower q
  pub gathers : GatheredFrom net.places (at ups) (free_load net lower upper x) left gathered
  pub adds : added ≡ fixed_from net lower upper driven 0 + priced_from net lower upper upstream x left
  pub lean_long : length lean ≡ net.places
  pub wide_long : length wide ≡ net.places

-- The place before `left` is free, and the free places from `left` on are sized by x; `best` was found before.
pub record FreeBefore (net : Driving) (lower upper upstream driven ups : List ℕ) (left added : ℕ) (x gathered : List ℕ) (best : Found) : Type 0 where
  pub some : 0 < left
  pub frees : free lower upper (left - 1) ≡ true
  pub sized : Sized net lower upper upstream driven ups left added x gathered best.lean best.wide

-- Every sizing between the bounds that has the indices of x from `left` on was taken, what stands from `left` on is as it was, and so are the
-- held places.
pub record Searched (net : Driving) (lower upper : List ℕ) (left : ℕ) (x gathered : List ℕ) (before : Found) (x' gathered' : List ℕ) (after : Found) : Type 0 where
  pub found : after ≡ takes (delay_by net) (cover lower upper left x) before
  pub allowed : Allowed (allowed_by net) x'
  pub held : (q : ℕ) → q < net.places → free lower upper q ≡ false → at x' q ≡ at lower q
  pub same : (q : ℕ) → left ≤ q → q < net.places → at x' q ≡ at x q
  pub gathers : gathered' ≡ gathered

-- From `low` on every index before k gives a delay above `least`, and k is at most one past `top`.
pub record PassedTo (net : Driving) (w u p l added least low top k : ℕ) : Type 0 where
  pub from : low ≤ k
  pub within : k ≤ suc top
  pub above : (j : ℕ) → low ≤ j → j < k → least < added + cost net w u p l j

-- Both bounds have an index for each place; `skips` is filled.
module _ (c : Counts) (lower upper : List ℕ) where
  abbrev pub BothLong : Type 0
  BothLong = (places_by c ≤ length lower) × (places_by c ≤ length upper)

  abbrev pub Skipped : List ℕ → Type 0
  Skipped skips = SkipsTo lower upper (places_by c) skips

-- r is the place at position t with what its steps need, as the tables have it.
pub record FreePlaceAt (c : Counts) (job orders weights upstream loads lower upper : List ℕ) (t : ℕ) (r : FreePlace) : Type 0 where
  pub spot : SpotOf c job (at weights t) (at upstream t) (at orders t) r.spot
  pub driven : r.driven.0 ≡ at loads t
  pub low : r.range.lowest ≡ at lower t
  pub top : r.range.highest ≡ at upper t

-- The index that is not passed over, and where there is none the one past `top`.
abbrev pub first_of : ℕ → Option ℕ → ℕ
first_of top (Some k) = k
first_of top None = suc top

-- What the contracts say of the net of a job, by the counts of its records and its bytes.
module _ (c : Counts) (b : List ℕ) where
  -- Every index of place p from `low` to `top` gives a delay below 2 ^ 63.
  abbrev pub AllFit : (w u p l added low top : ℕ) → Type 0
  AllFit w u p l added low top = (k : ℕ) → low ≤ k → k ≤ top → added + cost (placed_by c b) w u p l k < 2 ^ 63

  -- Those before k are passed over.
  abbrev pub PassedBy : (w u p l added least low top k : ℕ) → Type 0
  PassedBy w u p l added least low top k = PassedTo (placed_by c b) w u p l added least low top k

  -- The index k is one up to `top` that gives a delay of at most `least`.
  abbrev pub ReachedBy : (w u p l added least top k : ℕ) → Type 0
  ReachedBy w u p l added least top k = (k ≤ top) × (added + cost (placed_by c b) w u p l k ≤ least)

  module _ (lower upper : List ℕ) where
    -- The node at which a load at `node` arrives, and that of each place.
    abbrev pub arrives_at : List ℕ → ℕ → ℕ
    arrives_at ups node = before (arrives (driving_by c b) lower upper ups) node

    abbrev pub Lifted : List ℕ → Type 0
    Lifted ups = UpsTo (driving_by c b) lower upper (places_by c) ups

    -- What is kept when every sizing between the bounds was taken.
    abbrev pub taken_between : Found → Found
    taken_between before = takes (delay_by (driving_by c b)) (cover lower upper (places_by c) lower) before
