-- What a free place says, by its own figures and by the tables.
use mathlib.Core.Path.{◌≡◌}
use mathlib.Core.List.{List}
use Prim.Native.Nat.{ℕ, ◌+◌, ◌-◌, ◌≤◌, ◌<◌}
use lib.ListN.{get_or}
use Rattle.quantity.specs.declared.Capacitance.{Capacitance}
use native.Mathlib.Omega.{arith}
use Rattle.lattice.specs.Lists.{at}
use Rattle.net.specs.declared.Counts.{Counts}
use Rattle.net.specs.Order.{placed_by, driving_by}
use Rattle.net.proofs.InOrder.{allowed-by}
use Rattle.job.specs.Tables.{TableOf}
use Rattle.place.specs.declared.PlaceStep.{PlaceStep}
use Rattle.place.specs.Figures.{loads}
use Rattle.place.specs.Partial.{StepOf}
use Rattle.place.specs.ByCounts.{StepInLimits}
use Rattle.place.proofs.Loads.{loads-at}
use Rattle.free.specs.declared.FreePlace.{FreePlace}
use Rattle.free.specs.Searching.{Between, Prepared, BothLong, FreePlaceAt, AllFit, PassedBy}

-- the load that has arrived behind the place before `left`, by the table of loads
pub gathered-at : (g : List Capacitance) (left load d : ℕ) → 0 < left → load ≡ d + (get_or g left (record { 0 = 0 })).0 → load ≡ d + at (loads g) (left - 1 + 1)
gathered-at g left load d some e =
    let z : left ≡ left - 1 + 1 = omega arith in
    rw (← z) (rw (loads-at g left) at e)

module _ {c : Counts} {job orders weights upstream driven lower upper : List ℕ} {t : ℕ} {r : FreePlace} (f : FreePlaceAt c job orders weights upstream driven lower upper t r) where
  pub table-at : TableOf c job r.spot.place r.spot.table
  table-at = rw f.spot.place f.spot.table

  -- a step from the place
  pub limits-at : (k load : ℕ) → StepInLimits c job (at weights t) (at upstream t) (at orders t) k load → StepInLimits c job r.spot.weight r.spot.before.0 r.spot.place k load
  limits-at k load h = rw (f.spot.weight, f.spot.before, f.spot.place) h

  pub top-limits-at : (load : ℕ) → StepInLimits c job (at weights t) (at upstream t) (at orders t) (at upper t) load → StepInLimits c job r.spot.weight r.spot.before.0 r.spot.place r.range.highest load
  top-limits-at load h = rw (f.spot.weight, f.spot.before, f.spot.place, f.top) h

  pub step-at : (k load : ℕ) (s : PlaceStep) → StepOf (placed_by c job) r.spot.weight r.spot.before.0 r.spot.place k load s → StepOf (placed_by c job) (at weights t) (at upstream t) (at orders t) k load s
  step-at k load s h = rw (f.spot.weight, f.spot.before, f.spot.place) at h

  -- the load that it drives, with what has arrived behind the place before `left`
  pub loaded : (g : List Capacitance) (left load : ℕ) → 0 < left → load ≡ r.driven.0 + (get_or g left (record { 0 = 0 })).0 → load ≡ at driven t + at (loads g) (left - 1 + 1)
  loaded g left load some e = rw f.driven at (gathered-at g left load r.driven.0 some e)

  -- its indices
  pub inside-at : (k : ℕ) → k ≤ r.range.highest → k ≤ at upper t
  inside-at k h = rw f.top at h

  pub outside-at : (k : ℕ) → r.range.highest < k → at upper t < k
  outside-at k h = rw f.top at h

  pub range_at : (at lower t ≤ at upper t) × (at upper t < 16) → (r.range.lowest ≤ r.range.highest) × (r.range.highest < 16)
  range_at h = rw (f.low, f.top) h

  pub fit_at : (load added : ℕ) → AllFit c job (at weights t) (at upstream t) (at orders t) load added (at lower t) (at upper t) → AllFit c job r.spot.weight r.spot.before.0 r.spot.place load added r.range.lowest r.range.highest
  fit_at load added h = rw (f.spot.weight, f.spot.before, f.spot.place, f.low, f.top) h

  pub passed-at : (load added least k : ℕ) → PassedBy c job r.spot.weight r.spot.before.0 r.spot.place load added least r.range.lowest r.range.highest k → PassedBy c job (at weights t) (at upstream t) (at orders t) load added least (at lower t) (at upper t) k
  passed-at load added least k h = rw (f.spot.weight, f.spot.before, f.spot.place, f.low, f.top) at h

-- two bounds have an index for each place
pub between-long : {c : Counts} {job lower upper : List ℕ} → Between c job lower upper → BothLong c lower upper
between-long {c} {job} {lower} {upper} b =
    (omega (arith, ((allowed-by (driving_by c job) lower).0 b.lower_allowed).long), omega (arith, ((allowed-by (driving_by c job) upper).0 b.upper_allowed).long))

pub prepared-long : {c : Counts} {job orders weights upstream driven ups skips lower upper : List ℕ} → Prepared c job orders weights upstream driven ups skips lower upper → BothLong c lower upper
prepared-long p = between-long (record { lower_allowed = p.lower_allowed; upper_allowed = p.upper_allowed; in_order = p.in_order })
