-- What one place adds, from what is known of the places after it: cited by the contracts of this crate.
use Rattle.std.specs.Prelude.{◌≡◌, List, ℕ, ◌^◌, ◌≤◌, ◌<◌, length}
use Rattle.lattice.specs.Lists.{at}
use Rattle.net.specs.Driving.{Driving, load_at, cost}
use Rattle.place.specs.declared.PlaceStep.{PlaceStep}

-- r is the step of place p to the index k, where it has the weight w, the weighted resistance u upstream, and drives the load l.
pub record StepOf (net : Driving) (w u p k l : ℕ) (r : PlaceStep) : Type 0 where
  pub delay : r.delay.0 ≡ cost net w u p l k
  pub load : r.load.0 ≡ load_at net p k l
  pub fits : r.delay.0 < 2 ^ 63

-- `weights` has the weights of the places from p on.
pub record WeightsFrom (net : Driving) (p : ℕ) (weights : List ℕ) : Type 0 where
  pub long : net.places ≤ length weights
  pub held : (q : ℕ) → p ≤ q → q < net.places → at weights q ≡ net.weight q
