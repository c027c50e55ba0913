-- What is read of a weight record, and what its fraction counts.
use Rattle.std.specs.Prelude.{◌≡◌, ℕ, true, false, List, ◌≢◌, Float, Option, Some, None}
use Rattle.lattice.specs.Lists.{some}
use Rattle.net.specs.declared.Counts.{Counts}
use Rattle.net.specs.Job.{weight_form, weight_whole}
use Rattle.net.specs.Weights.{counts_as, fraction_count, fraction}
use Rattle.net.specs.Net.{net_by}
use Rattle.sinks.specs.declared.Weight.{Weight}
use Rattle.sinks.specs.declared.Weight.TheVariants.{Fraction, Whole, Absent}
use Rattle.sinks.specs.declared.Sink.{Sink}

-- What `count` says of a fraction: what it counts, or that it counts as no whole number from 0 to 255.
abbrev pub CountOf : Float → Option ℕ → Type 0
CountOf x (Some k) = (some 256 (counts_as x) ≡ true) × (k ≡ fraction_count x)
CountOf x None = some 256 (counts_as x) ≡ false

-- What `weight_of` says of weight record w: its form, and its weight.
abbrev pub WeightOf : Counts → List ℕ → ℕ → Weight → Type 0
WeightOf c b w (Fraction x) = (weight_form c b w ≡ 2) × (x ≡ fraction c b w)
WeightOf c b w (Whole k) = (weight_form c b w ≡ 1) × (k ≡ weight_whole c b w)
WeightOf c b w Absent = (weight_form c b w ≢ 1) × (weight_form c b w ≢ 2)

-- r is the entry of segment i's sink with this fraction.
pub record SinkOf (c : Counts) (b : List ℕ) (i : ℕ) (x : Float) (r : Sink) : Type 0 where
  pub weight : r.weight ≡ x
  pub capacitance : r.capacitance.0 ≡ (net_by c b).sink i
