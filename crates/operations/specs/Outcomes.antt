-- The number and the values of the specification for each case of the answers, and which of two slices choose hands back a part of.
use Rattle.std.specs.Prelude.{◌≡◌, Bool, true, false, not, ◌&&◌, ◌≢◌, List, ℕ, ◌≤◌, eqb, length, Option, Some, None, Result, Ok, Err}
use Rattle.net.specs.Net.{net_of, places}
use Rattle.net.specs.Answers.{Measured, Refined, choose_number, first_chosen}
use Rattle.stages.specs.declared.DelayAndLoad.{DelayAndLoad}
use Rattle.best.specs.declared.EndsAndDelay.{EndsAndDelay}
use Rattle.refusal.specs.declared.Refusal.{Refusal}
use Rattle.refusal.specs.Numbers.{number_of}
use Rattle.operations.specs.declared.Preference.{Preference}
use Rattle.operations.specs.declared.Preference.TheVariants.{First, Second}

-- With figures the number is 0; a refusal has its question's number and zeros.
abbrev pub measured_by : Result DelayAndLoad Refusal → Measured
measured_by (Ok f) = record { number = 0; delay = f.delay.0; load = f.load.0 }
measured_by (Err r) = record { number = number_of r; delay = 0; load = 0 }

abbrev pub refined_by : Result EndsAndDelay Refusal → Refined
refined_by (Ok f) = record { number = 0; lowest = f.lowest; highest = f.highest; delay = f.delay.0 }
refined_by (Err r) = record { number = number_of r; lowest = 0; highest = 0; delay = 0 }

-- Choose hands back a part of the second slice where it answers and the second has the smaller delay, of the first otherwise.
unfoldable pub from_second : List ℕ → List ℕ → List ℕ → Bool
from_second job x y = eqb (choose_number job x y) 0 && not (first_chosen job x y)

-- Where choose answers, the one that it hands back and its P bytes, which that slice holds; none exactly where choose refuses.
abbrev pub Preferred : List ℕ → List ℕ → List ℕ → Option Preference → Type 0
Preferred job x y (Some (First p)) = (choose_number job x y ≡ 0) × (first_chosen job x y ≡ true) × (p ≡ places (net_of job)) × (p ≤ length x)
Preferred job x y (Some (Second p)) = (choose_number job x y ≡ 0) × (first_chosen job x y ≡ false) × (p ≡ places (net_of job)) × (p ≤ length y)
Preferred job x y None = choose_number job x y ≢ 0
