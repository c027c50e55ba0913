-- What a weight record counts, and the weight of a segment's sink. Weights count 256ths; what a binary64 is, is the kit's account of IEEE 754.
use Rattle.std.specs.Prelude.{Bool, false, cond, not, ◌&&◌, ◌||◌, List, ℕ, zero, suc, ◌*◌, eqb, Float}
use Rattle.std.specs.Float.{nan, inf, fin, binary64}
use Rattle.std.specs.Float.Ieee.{up, down, of_bits}
use Rattle.net.specs.declared.Counts.{Counts}
use Rattle.net.specs.Job.{weight_records, segment_weight, weight_segment, weight_form, weight_whole, weight_bits}

-- g at the last of the numbers 0 .. n - 1 for which a test holds; d where it holds for none.
unfoldable pub last_at : ℕ → (ℕ → Bool) → (ℕ → ℕ) → ℕ → ℕ
last_at zero f g d = d
last_at (suc n) f g d = cond (f n) (g n) (last_at n f g d)

-- Is a number finite, and 256 times its value the whole number k? `fin s m e` is m × 2 ^ e, negative where s is true, and 2 ^ e is up e / down e. Minus
-- zero is 0.
unfoldable pub counts_as : Float → ℕ → Bool
counts_as nan k = false
counts_as (inf s) k = false
counts_as (fin s m e) k = eqb (m * up e * 256) (k * down e) && (not s || eqb k 0)

-- What a fraction counts, where it is accepted: the whole number from 0 to 255 that 256 times its value is.
unfoldable pub fraction_count : Float → ℕ
fraction_count x = last_at 256 (counts_as x) (λ k. k) 0

module _ (c : Counts) (b : List ℕ) where
  -- The fraction of weight record w, of form 2.
  abbrev pub fraction : ℕ → Float
  fraction w = of_bits binary64 (weight_bits c b w)

  -- What weight record w counts, of form 1 its whole number and of form 2 its fraction. Of another form it is not read.
  unfoldable pub weight_count : ℕ → ℕ
  weight_count w = cond (eqb (weight_form c b w) 1) (weight_whole c b w) (fraction_count (fraction w))

  -- Has weight record w, of form 1 or 2, a weight for segment i's sink? Of form 0 it is absent.
  unfoldable pub weighs : ℕ → ℕ → Bool
  weighs i w = eqb (weight_segment c b w) i && (eqb (weight_form c b w) 1 || eqb (weight_form c b w) 2)

  -- The weight of segment i's sink: that of its weight record where it has one, and its own byte otherwise.
  unfoldable pub sink_weight : ℕ → ℕ
  sink_weight i = last_at (weight_records b) (weighs i) weight_count (segment_weight c b i)
