-- What refining a place comes to: cited by the contracts of inner functions.
use Rattle.std.specs.Prelude.{◌≡◌, List, ℕ, set}
use Rattle.lattice.specs.Space.{Space}
use Rattle.lattice.specs.Refine.{best_below, best_above}
use Rattle.net.specs.declared.Counts.{Counts}
use Rattle.net.specs.Net.{net_by}
use Rattle.net.specs.Delay.{delay}
use Rattle.net.specs.Sizings.{allowed}
use Rattle.best.specs.declared.EndsAndDelay.{EndsAndDelay}

-- r has the smallest and the largest best index at place p of x, the rest held, and the delay of x with the smallest put there.
pub record ReachedAt (sp : Space) (D : List ℕ → ℕ) (x : List ℕ) (p : ℕ) (r : EndsAndDelay) : Type 0 where
  pub smallest : r.lowest ≡ best_below sp D x p
  pub largest : r.highest ≡ best_above sp D x p
  pub reached : r.delay.0 ≡ D (set x p (best_below sp D x p))

-- The same of the net of a job.
abbrev pub ReachedBy : Counts → (b x : List ℕ) → ℕ → EndsAndDelay → Type 0
ReachedBy c b x p r = ReachedAt (allowed (net_by c b)) (delay (net_by c b)) x p r
