-- The weights of the places, from the last position to the first: one position more.
use mathlib.Core.Path.{◌≡◌, refl, sym, ap, subst, ◌∙◌}
use mathlib.Core.Logic.{◌⊎◌, inl, inr}
use mathlib.Core.List.{List}
use Prim.Native.Nat.{ℕ, suc, ◌+◌, ◌-◌, ◌≤◌, ◌<◌}
use native.Mathlib.Nat.{eq-or-lt_of_le, mul-le-mul_right}
use native.Mathlib.Omega.{arith}
use lib.ListN.{length, set, length-set}
use lib.Seq.{get_or-set_same, get_or-set_other}
use Rattle.lattice.specs.Lists.{at}
use Rattle.net.specs.declared.Counts.{Counts}
use Rattle.net.specs.Job.{places_by}
use Rattle.net.specs.Net.{net_by}
use Rattle.net.specs.Checked.{Checked}
use Rattle.net.specs.Driving.{behind}
use Rattle.net.specs.Order.{order, weight_driven, driving_by}
use Rattle.net.proofs.Order.{numbering}
use Rattle.net.proofs.Weights.{weight-behind}
use Rattle.net.proofs.Questions.{ordered}
use Rattle.net.proofs.InOrder.{placed, in_limits, checked-driven}
use Rattle.positions.specs.declared.Arranged.{Arranged}
use Rattle.place.specs.Partial.{WeightsFrom}
use Rattle.place.specs.Held.{GatheredFrom}
use Rattle.place.proofs.Gathering.{gathered-all, gathered-small, gathering-start, gathering-step}
use Rattle.weights.specs.Sinks.{sink_weight_at, doubled}

-- The weight of the sinks that position t drives.
abbrev pub driven : Counts → List ℕ → ℕ → ℕ
driven c b t = weight_driven (net_by c b) (order (net_by c b) t)

-- What the loop knows when the positions from t on are done.
pub record Weighing (c : Counts) (b : List ℕ) (t : ℕ) (weights gathered : List ℕ) : Type 0 where
  pub weighs : WeightsFrom (driving_by c b) t weights
  pub gathers : GatheredFrom (places_by c) (driving_by c b).hangs_at (driven c b) t gathered

pub weighing-start : (c : Counts) (b weights gathered : List ℕ) → places_by c ≤ length weights → places_by c < length gathered → ((r : ℕ) → r ≤ places_by c → at gathered r ≡ 0)
    → Weighing c b (places_by c) weights gathered
weighing-start c b weights gathered h k z =
    record {
      weighs = record { long = h; held = λ q m n. absurd (omega arith) };
      gathers = gathering-start (places_by c) (driving_by c b).hangs_at (driven c b) gathered k z;
    }

module _ {c : Counts} {b : List ℕ} (k : Checked c b) where
  driven-most : (t : ℕ) → t < places_by c → driven c b t ≤ 16575
  driven-most t h = checked-driven k (order (net_by c b) t) ((numbering (net_by c b) (ordered k).sites (ordered k).rising).inside t h)

  module _ (t : ℕ) (few : t < places_by c) (weights gathered : List ℕ) (i : Weighing c b (suc t) weights gathered) where
    here : at gathered (suc t) ≡ behind (driving_by c b) (driven c b) t
    unfolding behind
    here =
        i.gathers.held (suc t) (omega arith)
        ∙ sym (gathered-all (places_by c) (driving_by c b).hangs_at (driven c b) (suc t) (suc t) (λ q h m e. omega (arith, (placed k).falls q m)))

    -- the sink's weight and what is gathered behind it
    pub driven-is : (w : ℕ) → w ≡ sink_weight_at c b (order (net_by c b) t) → w + at gathered (suc t) ≡ driven c b t
    driven-is w e = omega (arith, e, here, weight-behind (net_by c b) (ordered k) t few)

    pub driven-few : (w : ℕ) → w ≡ sink_weight_at c b (order (net_by c b) t) → w + at gathered (suc t) ≤ 16575
    driven-few w e = rw (driven-is w e) (driven-most t few)

    pub gathered-few : (r : ℕ) → r ≤ places_by c → at gathered r ≤ 1259700
    gathered-few r h =
        omega (
          arith,
          i.gathers.held r h,
          gathered-small (places_by c) (driving_by c b).hangs_at (driven c b) (suc t) r 16575 (λ q m n. driven-most q n),
          mul-le-mul_right 16575 (in_limits k).few,
        )

    pub weighing-step : (p w v u : ℕ) → p ≡ order (net_by c b) t → w ≡ sink_weight_at c b p → v ≡ doubled c p (w + at gathered (suc t)) → u ≡ at gathered ((driving_by c b).hangs_at t) + (w + at gathered (suc t))
        → Weighing c b t (set weights t v) (set gathered ((driving_by c b).hangs_at t) u)
    weighing-step p w v u a e f g =
        let d : w + at gathered (suc t) ≡ driven c b t = driven-is w (e ∙ ap (sink_weight_at c b) a) in
        record {
          weighs = record {
            long = rw (length-set weights t v) i.weighs.long;
            held = λ q l m. place q m (eq-or-lt_of_le l);
          };
          gathers = gathering-step (places_by c) (driving_by c b).hangs_at (driven c b) (driven c b) t gathered few (λ q l m. refl) i.gathers u (omega (arith, (placed k).falls t few))
              (g ∙ ap (λ (z : ℕ). at gathered ((driving_by c b).hangs_at t) + z) d);
        }
      where
        place : (q : ℕ) → q < places_by c → (t ≡ q) ⊎ (t < q) → at (set weights t v) q ≡ (driving_by c b).weight q
        place q m (inl z) = rw (← z) (get_or-set_same weights t v 0 (omega (arith, i.weighs.long)) ∙ f ∙ rw (a, driven-is w (e ∙ ap (sink_weight_at c b) a)))
        place q m (inr z) = get_or-set_other weights t q v 0 (λ n. omega arith) ∙ i.weighs.held q z m

-- One turn of the loop, at the position n - 1 of arranged places, where n positions are left before it: w is the weight of the place's sink.
module _ (a : Arranged) {n : ℕ} {weights gathered : List ℕ} (i : Weighing a.job.counts a.job.bytes.now n weights gathered) (some : 0 < n) (few : n ≤ places_by a.job.counts)
    {w : ℕ} (e : w ≡ sink_weight_at a.job.counts a.job.bytes.now (at a.order.now (n - 1))) where
  passed : Weighing a.job.counts a.job.bytes.now (suc (n - 1)) weights gathered
  passed = let z : n ≡ suc (n - 1) = omega arith in subst (λ (m : ℕ). Weighing a.job.counts a.job.bytes.now m weights gathered) z i

  by_position : w ≡ sink_weight_at a.job.counts a.job.bytes.now (order (net_by a.job.counts a.job.bytes.now) (n - 1))
  by_position = e ∙ ap (sink_weight_at a.job.counts a.job.bytes.now) (a.in_order.held (n - 1) (omega arith))

  pub turn-driven : w + at gathered (n - 1 + 1) ≤ 16575
  turn-driven =
      let z : n - 1 + 1 ≡ suc (n - 1) = omega arith in
      rw z (driven-few a.job.checked (n - 1) (omega arith) weights gathered passed w by_position)

  pub turn-gathered : at gathered (at a.hangs.now (n - 1)) ≤ 1259700
  turn-gathered =
      let node = a.nodes.held (n - 1) (omega arith) in
      let falls = (placed a.job.checked).falls (n - 1) (omega arith) in
      gathered-few a.job.checked (n - 1) (omega arith) weights gathered passed (at a.hangs.now (n - 1)) (omega arith)

  pub turn-after : {v : ℕ} → v ≡ doubled a.job.counts (at a.order.now (n - 1)) (w + at gathered (n - 1 + 1))
      → Weighing a.job.counts a.job.bytes.now (n - 1) (set weights (n - 1) v) (set gathered (at a.hangs.now (n - 1)) (at gathered (at a.hangs.now (n - 1)) + (w + at gathered (n - 1 + 1))))
  turn-after f =
      let z : n - 1 + 1 ≡ suc (n - 1) = omega arith in
      let node = a.nodes.held (n - 1) (omega arith) in
      rw (z, node) (weighing-step a.job.checked (n - 1) (omega arith) weights gathered passed _ _ _ _ (a.in_order.held (n - 1) (omega arith)) e (rw z at f) refl)
