-- What the contracts of loading the weights say.
use Rattle.std.specs.Prelude.{◌≡◌, ℕ, ◌<◌, Bool, not, ◌||◌, List, length, ◌==◌}
use Rattle.lattice.specs.Lists.{at, some}
use Rattle.net.specs.declared.Counts.{Counts}
use Rattle.net.specs.Job.{segment_weight, weight_form}
use Rattle.net.specs.Weights.{last_at, counts_as, fraction, weight_count, weighs}

-- Is the fraction of weight record w, where it has one, accepted?
abbrev pub accepted : Counts → List ℕ → ℕ → Bool
accepted c b w = not (weight_form c b w == 2) || some 256 (counts_as (fraction c b w))

-- t has the weights of the sinks, by the first n weight records.
pub record LoadedTo (c : Counts) (b : List ℕ) (n : ℕ) (t : List ℕ) : Type 0 where
  pub long : length t ≡ 64
  pub weighs : (i : ℕ) → i < c.segments → at t i ≡ last_at n (weighs c b i) (weight_count c b) (segment_weight c b i)
