-- A place is a stage, a segment or a repeater.
use mathlib.Core.Path.{◌≡◌}
use mathlib.Core.Bool.{true, false}
use Prim.Native.Nat.{ℕ, suc, ◌+◌, ◌-◌, ◌≤◌, ◌<◌}
use native.Mathlib.Nat.{le_dest}
use native.Mathlib.Decide.{dec_le}
use native.Mathlib.Omega.{arith}
use borrow.Author.Tests.{lt-ltb, le-ltb}
use lib.Dec.{ltb}
use Rattle.lattice.specs.Lists.{sum}
use Rattle.net.specs.Job.{of_kind}
use Rattle.net.specs.Net.{Net, places}
use Rattle.net.proofs.Sum.{sum_same, sum-split}

-- What is said of a place by its kind, where the kind is known.
module _ {A : Type 0} (stages segments : ℕ) (f g h : ℕ → A) (p : ℕ) where
  pub of-stage : p < stages → of_kind stages segments f g h p ≡ f p
  unfolding of_kind
  of-stage l = rw (lt-ltb p stages l)

  pub of-segment : stages ≤ p → p < stages + segments → of_kind stages segments f g h p ≡ g (p - stages)
  unfolding of_kind
  of-segment l m = rw (le-ltb p stages l, lt-ltb p (stages + segments) m)

  pub of-repeater : stages + segments ≤ p → of_kind stages segments f g h p ≡ h (p - (stages + segments))
  unfolding of_kind
  of-repeater l = let m : stages ≤ p = omega arith in rw (le-ltb p stages m, le-ltb p (stages + segments) l)

module _ (net : Net) where
  -- the tests by which `by_kind` tells them apart, and their numbers
  pub is-stage : (s : ℕ) → s < net.stages → ltb s net.stages ≡ true
  is-stage s h = lt-ltb s net.stages h

  pub is-segment : (i : ℕ) → i < net.segments
      → (ltb (net.stages + i) net.stages ≡ false) × (ltb (net.stages + i) (net.stages + net.segments) ≡ true) × (net.stages + i - net.stages ≡ i)
  is-segment i h =
      (le-ltb (net.stages + i) net.stages (omega arith), lt-ltb (net.stages + i) (net.stages + net.segments) (omega arith), omega arith)

  pub is-repeater : (r : ℕ)
      → (ltb (net.stages + net.segments + r) net.stages ≡ false) × (ltb (net.stages + net.segments + r) (net.stages + net.segments) ≡ false)
      × (net.stages + net.segments + r - (net.stages + net.segments) ≡ r)
  is-repeater r = (
    le-ltb (net.stages + net.segments + r) net.stages (omega arith),
    le-ltb (net.stages + net.segments + r) (net.stages + net.segments) (omega arith),
    omega arith,
  )

  pub kinds : (P : ℕ → Type 0) → ((s : ℕ) → s < net.stages → P s) → ((i : ℕ) → i < net.segments → P (net.stages + i))
      → ((r : ℕ) → r < net.repeaters → P (net.stages + net.segments + r)) → (p : ℕ) → p < places net → P p
  kinds P f g h p l = go (dec_le (suc p) net.stages) (dec_le (suc p) (net.stages + net.segments))
    where
      go : Dec (suc p ≤ net.stages) → Dec (suc p ≤ net.stages + net.segments) → P p
      go (yes a) b = f p a
      go (no a) (yes b) =
          let m : net.stages ≤ p = omega arith in
          let d = le_dest m in
          rw d.1 at (g d.0 (omega (arith, d.1)))
      go (no a) (no b) =
          let m : net.stages + net.segments ≤ p = omega arith in
          let d = le_dest m in
          rw d.1 at (h d.0 (omega (arith, d.1)))

  -- a sum over all places, kind by kind
  pub places-sum : (f g h k : ℕ → ℕ) → ((s : ℕ) → s < net.stages → f s ≡ g s) → ((i : ℕ) → i < net.segments → f (net.stages + i) ≡ h i)
      → ((r : ℕ) → r < net.repeaters → f (net.stages + net.segments + r) ≡ k r)
      → sum (places net) f ≡ sum net.stages g + sum net.segments h + sum net.repeaters k
  places-sum f g h k a b c =
      let d = sum-split (net.stages + net.segments) net.repeaters f in
      let e = sum-split net.stages net.segments f in
      let l = sum_same net.stages f g a in
      let m = sum_same net.segments (λ i. f (net.stages + i)) h b in
      let n = sum_same net.repeaters (λ r. f (net.stages + net.segments + r)) k c in
      omega arith
