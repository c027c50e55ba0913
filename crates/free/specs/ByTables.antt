-- What the contracts of a search say by its tables.
use Rattle.std.specs.Prelude.{◌≡◌, List, ℕ, ◌+◌, ◌-◌, ◌<◌}
use Rattle.quantity.specs.declared.Capacitance.{Capacitance}
use Rattle.lattice.specs.Lists.{at}
use Rattle.net.specs.Driving.{Driving}
use Rattle.net.specs.Order.{driving_by}
use Rattle.place.specs.Figures.{loads, resistances}
use Rattle.envelope.specs.declared.Kept.{Kept}
use Rattle.envelope.specs.Kept.{found_of}
use Rattle.free.specs.declared.FreePlace.{FreePlace}
use Rattle.free.specs.declared.prepared.SearchTables.{SearchTables}
use Rattle.free.specs.Searching.{FreePlaceAt, FreeBefore, Searched, PassedTo}

module _ (s : SearchTables) where
  -- The net that is sized.
  abbrev pub net_of : Driving
  net_of = driving_by s.job.counts s.job.bytes.now

  -- r is the place at position t with what its steps need.
  abbrev pub IsAt : ℕ → FreePlace → Type 0
  IsAt t r =
      FreePlaceAt s.job.counts s.job.bytes.now s.order.now s.weights.now (resistances s.upstream.now) (loads s.driven.now) s.bounds.lower.now
      s.bounds.upper.now t r

  -- The place before `left` is free, and the free places from `left` on are sized by x.
  abbrev pub IsBefore : (left added : ℕ) (x : List ℕ) (gathered : List Capacitance) (kept : Kept) → Type 0
  IsBefore left added x gathered kept =
      FreeBefore net_of s.bounds.lower.now s.bounds.upper.now (resistances s.upstream.now) (loads s.driven.now) s.ups.now left added x (loads gathered) (found_of kept)

  -- It is the last free place, or there are more before it.
  abbrev pub IsLast : ℕ → Type 0
  IsLast left = at s.skips.now (left - 1) ≡ 0

  abbrev pub HasMore : ℕ → Type 0
  HasMore left = 0 < at s.skips.now (left - 1)

  -- At the place before `left` the indices before k are passed over.
  abbrev pub PassedAt : (left added : ℕ) (gathered : List Capacitance) (least k : ℕ) → Type 0
  PassedAt left added gathered least k =
      PassedTo net_of (at s.weights.now (left - 1)) (at (resistances s.upstream.now) (left - 1)) (left - 1)
      (at (loads s.driven.now) (left - 1) + at (loads gathered) (left - 1 + 1)) added least (at s.bounds.lower.now (left - 1)) (at s.bounds.upper.now (left - 1)) k

  -- Every sizing between the bounds that has the indices of x from `left` on was taken.
  abbrev pub SearchedFrom : (left : ℕ) (x : List ℕ) (gathered : List Capacitance) (before : Kept) (x' : List ℕ) (gathered' : List Capacitance) (after : Kept) → Type 0
  SearchedFrom left x gathered before x' gathered' after =
      Searched net_of s.bounds.lower.now s.bounds.upper.now left x (loads gathered) (found_of before) x' (loads gathered') (found_of after)
