-- The weights of a place, by its number in the job: cited by the contracts of this crate.
use Rattle.std.specs.Prelude.{◌≡◌, cond, List, ℕ, ◌*◌, ◌≤◌}
use Rattle.net.specs.declared.Counts.{Counts}
use Rattle.net.specs.Net.{net_by}
use Rattle.net.specs.Places.{by_kind}
use Rattle.job.specs.Ranges.{driver_at}

-- The weight of the sink at the far end of place p, by its kind.
abbrev pub sink_weight_at : Counts → List ℕ → ℕ → ℕ
sink_weight_at c b p = by_kind (net_by c b) (λ s. 0) (net_by c b).weight (λ r. 0) p

abbrev pub SinkWeight : Counts → List ℕ → ℕ → ℕ → Type 0
SinkWeight c b p w = (w ≡ sink_weight_at c b p) × (w ≤ 255)

-- The weight w of what place p drives, twice for a driver.
abbrev pub doubled : Counts → ℕ → ℕ → ℕ
doubled c p w = cond (driver_at c p) (2 * w) w
