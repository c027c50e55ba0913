-- The node that a place hangs at, by its kind; and the steps of the loops that fill the tables.
use mathlib.Core.Path.{◌≡◌, sym, ◌∙◌}
use mathlib.Core.Logic.{◌⊎◌, inl, inr}
use mathlib.Core.Bool.{true, false, false≢true}
use mathlib.Core.List.{List}
use Prim.Native.Nat.{ℕ, suc, ◌+◌, ◌-◌, ◌≤◌, ◌<◌}
use native.Mathlib.Nat.{eq-or-lt_of_le, le_of_suc-le-suc}
use native.Mathlib.Omega.{arith}
use lib.ListN.{length, set}
use Rattle.lattice.specs.Lists.{at}
use Rattle.net.specs.declared.Counts.{Counts}
use Rattle.net.specs.Job.{places_by, of_kind}
use Rattle.net.specs.Net.{Net, net_by}
use Rattle.net.specs.Checked.{Checked, Ordered}
use Rattle.net.specs.Order.{places_before, position, placed_by, driving_by, InOrder, Run}
use Rattle.net.proofs.Places.{of-segment, is-stage, is-segment, is-repeater, kinds}
use Rattle.net.proofs.Order.{position-segment, numbering}
use Rattle.net.proofs.Ordering.{order-end, put-place, put-repeater}
use Rattle.net.proofs.Questions.{ordered}
use Rattle.job.specs.Ranges.{driver_at}
use Rattle.job.proofs.Ranges.{wire-range}
use Rattle.positions.specs.Arranged.{AllInOrder, PositionsOf}

module _ (c : Counts) (b : List ℕ) where
  -- a driver hangs directly behind the place before it
  pub driver-hangs : (p : ℕ) → p < places_by c → driver_at c p ≡ true → position (net_by c b) p ≡ (placed_by c b).hangs_at p
  unfolding of_kind
  driver-hangs =
      kinds (net_by c b) _ (λ s h e. rw (is-stage (net_by c b) s h))
      (λ i h e. let k = is-segment (net_by c b) i h in absurd (false≢true (rw (k.0, k.1) at e)))
      (λ r h e. let k = is-repeater (net_by c b) r in rw (k.0, k.1, k.2))

  -- a segment behind all that stands before the segment whose number is its parent byte
  pub wire-hangs : Checked c b → (p : ℕ) → driver_at c p ≡ false → position (net_by c b) (c.stages + (net_by c b).parent (p - c.stages)) ≡ (placed_by c b).hangs_at p
  wire-hangs k p e =
      let w = wire-range c p e in
      let o = ordered k in
      position-segment (net_by c b) o.sites o.rising ((net_by c b).parent (p - c.stages)) (omega (arith, k.parents (p - c.stages) (omega arith)))
      ∙ sym (of-segment _ _ (λ s. s) (λ i. places_before (net_by c b) ((net_by c b).parent i)) (λ r. suc (places_before (net_by c b) ((net_by c b).site r))) p w.0 w.1)

-- A run of places, whatever the net.
abbrev pub RunTo : (start end passed : ℕ) (orders positions : List ℕ) (p : ℕ) (orders' positions' : List ℕ) → Type 0
RunTo start end passed orders positions p orders' positions' =
    (net : Net) → Ordered net → Run net start end passed → InOrder net (start + passed) orders positions → InOrder net (p + passed) orders' positions'

pub run_step : {start end passed : ℕ} {orders positions : List ℕ} (p : ℕ) (orders' positions' : List ℕ) → start ≤ p → p < end
    → RunTo start end passed orders positions p orders' positions'
    → RunTo start end passed orders positions (p + 1) (set orders' (p + passed) p) (set positions' p (p + passed))
run_step {start} {end} {passed} p orders' positions' l h f net o n a =
    let e : p + 1 + passed ≡ suc (p + passed) = omega arith in
    rw e (put-place net o.sites o.rising start end passed p n l h (f net o n a))

-- The places before `start`, each with its repeater, are in order: r repeaters have been put.
pub record Passing (net : Net) (start r : ℕ) (orders positions : List ℕ) : Type 0 where
  pub few : r ≤ net.repeaters
  pub within : start ≤ net.stages + net.segments
  pub before : (k : ℕ) → k < r → net.stages + net.site k < start
  pub after : (k : ℕ) → r ≤ k → k < net.repeaters → start ≤ net.stages + net.site k
  pub in_order : InOrder net (start + r) orders positions

module _ (net : Net) (o : Ordered net) {start r : ℕ} {orders positions : List ℕ} (p : Passing net start r orders positions) where
  pub passing_step : r < net.repeaters → (end : ℕ) → end ≡ net.stages + net.site r + 1 → (orders' positions' : List ℕ) → InOrder net (end + r) orders' positions'
      → Passing net end (r + 1) (set orders' (end + r) (net.stages + net.segments + r)) (set positions' (net.stages + net.segments + r) (end + r))
  passing_step h end e orders' positions' a =
      record {
        few = omega arith;
        within = omega (arith, o.sites r h);
        before = λ k l. earlier k (eq-or-lt_of_le (le_of_suc-le-suc (omega arith)));
        after = λ k l m. omega (arith, o.rising r k (omega arith) m);
        in_order = let f : end + (r + 1) ≡ suc (end + r) = omega arith in rw f (put-repeater net o.sites o.rising r h (end + r) (omega arith) a);
      }
    where
      earlier : (k : ℕ) → (k ≡ r) ⊎ (k < r) → net.stages + net.site k < end
      earlier k (inl f) = rw f (omega arith)
      earlier k (inr f) = omega (arith, o.rising k r f h)

-- With all places in order each has its position, and stands among the places.
module _ {c : Counts} {b : List ℕ} (k : Checked c b) {orders positions : List ℕ} (a : AllInOrder c b orders positions) where
  pub all-placing : PositionsOf c b positions
  all-placing = record { long = a.wide; held = order-end (net_by c b) (ordered k).sites (ordered k).rising a }

  pub order-among : (t : ℕ) → t < places_by c → at orders t < places_by c
  order-among t h = rw (a.ordered t h) ((numbering (net_by c b) (ordered k).sites (ordered k).rising).inside t h)

-- The nodes of the first t positions.
pub record HangsTo (c : Counts) (b : List ℕ) (t : ℕ) (hangs : List ℕ) : Type 0 where
  pub long : places_by c ≤ length hangs
  pub few : t ≤ places_by c
  pub held : (u : ℕ) → u < t → at hangs u ≡ (driving_by c b).hangs_at u
