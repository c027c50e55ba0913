-- Where a place's range stands in its record, and which places are drivers.
use Rattle.std.specs.Prelude.{◌≡◌, ℕ, ◌<◌, Bool, true, false, List}
use Rattle.net.specs.declared.Counts.{Counts}
use Rattle.net.specs.Job.{of_kind}
use Rattle.net.specs.Net.{net_by}
use Rattle.job.specs.declared.Range.{Range}

-- The byte of place p's record that has its lowest index, by its kind; the next one has its highest.
abbrev pub range_at : Counts → ℕ → ℕ
range_at c p = of_kind c.stages c.segments (λ s. 2) (λ i. 13) (λ r. 3) p

abbrev pub RangeAt : Counts → ℕ → ℕ → Type 0
RangeAt c p at = (at ≡ range_at c p) × (at < 15)

-- r has the lowest and the highest index that place p may have.
pub record RangeOf (c : Counts) (b : List ℕ) (p : ℕ) (r : Range) : Type 0 where
  pub lowest : r.lowest ≡ (net_by c b).lowest p
  pub highest : r.highest ≡ (net_by c b).highest p

-- Is place p a stage or a repeater, and not a segment?
abbrev pub driver_at : Counts → ℕ → Bool
driver_at c p = of_kind c.stages c.segments (λ s. true) (λ i. false) (λ r. true) p
