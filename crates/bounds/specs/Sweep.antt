-- Where refining starts, and what one sweep of it, a step at each place in turn, comes to.
use Rattle.std.specs.Prelude.{◌≡◌, Bool, true, false, List, ℕ, ◌<◌}
use Rattle.lattice.specs.Side.{Side, below, above}
use Rattle.lattice.specs.Space.{Space}
use Rattle.lattice.specs.Refine.{refine, slack, bound, Approaching}
use Rattle.net.specs.declared.Counts.{Counts}
use Rattle.net.specs.Job.{places_by}
use Rattle.net.specs.Driving.{Driving, allowed_by, delay_by}
use Rattle.net.specs.Order.{driving_by}

-- The first index of place p, seen from s.
abbrev pub first_at : Side → Driving → ℕ → ℕ
first_at below net p = net.lowest p
first_at above net p = net.highest p

-- A sweep from x₀ has come to x, with the first n places done; it says whether an index has changed. If one has, the slack is smaller; if none
-- has, refining at those places changes nothing.
pub record Swept (s : Side) (sp : Space) (D : List ℕ → ℕ) (x₀ : List ℕ) (n : ℕ) (x : List ℕ) (changed : Bool) : Type 0 where
  pub approaching : Approaching s sp D x
  pub closer : changed ≡ true → slack s sp x < slack s sp x₀
  pub same : changed ≡ false → x ≡ x₀
  pub still : changed ≡ false → (p : ℕ) → p < n → refine s sp D x p ≡ x

-- Of the net of a job in its driving order, by the counts of its records and its bytes, seen from s.
module _ (c : Counts) (b : List ℕ) (s : Side) where
  -- Refining has come to x, which is not past the bound.
  abbrev pub ApproachingFrom : List ℕ → Type 0
  ApproachingFrom x = Approaching s (allowed_by (driving_by c b)) (delay_by (driving_by c b)) x

  -- A sweep of all places has gone from x to y.
  abbrev pub SweptFrom : List ℕ → List ℕ → Bool → Type 0
  SweptFrom x y changed = Swept s (allowed_by (driving_by c b)) (delay_by (driving_by c b)) x (places_by c) y changed

  -- x is the bound.
  abbrev pub BoundFrom : List ℕ → Type 0
  BoundFrom x = x ≡ bound s (allowed_by (driving_by c b)) (delay_by (driving_by c b))
