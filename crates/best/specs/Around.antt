-- What surrounds a place in a sizing, as settling the place asks: cited by the contracts of this crate.
use Rattle.std.specs.Prelude.{◌≡◌, List, ℕ, suc, ◌<◌}
use Rattle.lattice.specs.Lists.{at}
use Rattle.net.specs.declared.Counts.{Counts}
use Rattle.net.specs.Job.{places_by}
use Rattle.net.specs.Net.{net_by}
use Rattle.net.specs.Driving.{driven_load}
use Rattle.net.specs.Order.{position, by_position, placed_by, driving_by}
use Rattle.place.specs.Held.{UpstreamTo}

module _ (c : Counts) (b : List ℕ) where
  -- Place a drives place p, which hangs directly behind it.
  abbrev pub Drives : ℕ → ℕ → Type 0
  Drives p a = (a < places_by c) × (suc (position (net_by c b) a) ≡ (placed_by c b).hangs_at p)

  -- In the sizing x place p drives the load l.
  abbrev pub DrivenAt : List ℕ → ℕ → ℕ → Type 0
  DrivenAt x p l = l ≡ driven_load (driving_by c b) (by_position (net_by c b) x) (position (net_by c b) p)

  -- In the sizing x the resistance upstream of place p is r, in whatever table has it by position.
  abbrev pub UpstreamOf : List ℕ → ℕ → ℕ → Type 0
  UpstreamOf x p r =
      (upstream : List ℕ) → UpstreamTo (driving_by c b) (by_position (net_by c b) x) (by_position (net_by c b) x) (suc (position (net_by c b) p)) upstream
      → r ≡ at upstream (position (net_by c b) p)
