-- The range of a place stands where its kind has it; which places are drivers.
use Rattle.std.proofs.Common.{◌≡◌, ℕ, suc, ◌+◌, ◌%◌, ◌^◌, ◌<◌, ◌≤◌, true, false, leb, ◌⊎◌, List, sym, ◌∙◌, inl, inr, true≢false, arith, le-leb}
use native.Mathlib.Decide.{dec_le}
use borrow.Author.Tests.{lt-leb}
use Rattle.net.specs.declared.Counts.{Counts}
use Rattle.net.specs.Job.{byte, places_by, of_kind, place_at}
use Rattle.net.specs.Net.{net_by}
use Rattle.net.proofs.Places.{of-stage, of-segment, of-repeater, is-stage, is-segment, is-repeater, kinds}
use Rattle.job.specs.Ranges.{range_at, driver_at}

module _ (c : Counts) (b : List ℕ) where
  pub range-held : (p : ℕ) → p < places_by c
      → (byte b (place_at c p + range_at c p) ≡ (net_by c b).lowest p) × (byte b (place_at c p + (range_at c p + 1)) ≡ (net_by c b).highest p)
  unfolding of_kind
  range-held =
      kinds (net_by c b) _ (λ s h. let k = is-stage (net_by c b) s h in (rw k, rw k))
      (λ i h. let k = is-segment (net_by c b) i h in (rw (k.0, k.1, k.2), rw (k.0, k.1, k.2)))
      (λ r h. let k = is-repeater (net_by c b) r in (rw (k.0, k.1, k.2), rw (k.0, k.1, k.2)))

-- A place is a driver where its number less the count of stages, wrapped round, is not below the count of segments: a stage's wraps to one above all.
pub driver-test : (c : Counts) (p r : ℕ) → c.stages ≤ 4 → c.segments ≤ 64 → p < 2 ^ 64 → r < 2 ^ 64 → (r + c.stages) % 2 ^ 64 ≡ p
    → leb c.segments r ≡ driver_at c p
driver-test c p r s n hp hr e = go (dec_le (suc p) c.stages) (dec_le c.segments r)
  where
    go : Dec (suc p ≤ c.stages) → Dec (c.segments ≤ r) → leb c.segments r ≡ driver_at c p
    go (yes a) b = rw (le-leb c.segments r (omega (arith, e))) (sym (of-stage _ _ (λ s. true) (λ i. false) (λ r. true) p a))
    go (no a) (yes b) = rw (le-leb c.segments r b) (sym (of-repeater _ _ (λ s. true) (λ i. false) (λ r. true) p (omega (arith, e))))
    go (no a) (no b) = rw (lt-leb c.segments r (omega arith)) (sym (of-segment _ _ (λ s. true) (λ i. false) (λ r. true) p (omega arith) (omega (arith, e))))

-- A wire is a segment, a driver a stage or a repeater.
module _ (c : Counts) (p : ℕ) where
  pub wire-range : driver_at c p ≡ false → (c.stages ≤ p) × (p < c.stages + c.segments)
  wire-range e = go (dec_le (suc p) c.stages) (dec_le (suc p) (c.stages + c.segments))
    where
      go : Dec (suc p ≤ c.stages) → Dec (suc p ≤ c.stages + c.segments) → (c.stages ≤ p) × (p < c.stages + c.segments)
      go (yes a) b = absurd (true≢false (sym (of-stage _ _ (λ s. true) (λ i. false) (λ r. true) p a) ∙ e))
      go (no a) (yes b) = (omega arith, b)
      go (no a) (no b) = absurd (true≢false (sym (of-repeater _ _ (λ s. true) (λ i. false) (λ r. true) p (omega arith)) ∙ e))

  pub driver-range : driver_at c p ≡ true → (p < c.stages) ⊎ (c.stages + c.segments ≤ p)
  driver-range e = go (dec_le (suc p) c.stages) (dec_le (suc p) (c.stages + c.segments))
    where
      go : Dec (suc p ≤ c.stages) → Dec (suc p ≤ c.stages + c.segments) → (p < c.stages) ⊎ (c.stages + c.segments ≤ p)
      go (yes a) b = inl a
      go (no a) (yes b) = absurd (true≢false (sym e ∙ of-segment _ _ (λ s. true) (λ i. false) (λ r. true) p (omega arith) b))
      go (no a) (no b) = inr (omega arith)
