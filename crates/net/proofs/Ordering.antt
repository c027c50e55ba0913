-- The turns of a loop that puts the places of a net in driving order, run after run of those between two repeaters.
use mathlib.Core.Path.{◌≡◌, sym, ap, ◌∙◌}
use mathlib.Core.Logic.{⊎_elim}
use mathlib.Core.Bool.{cond}
use mathlib.Core.List.{List}
use Prim.Native.Nat.{ℕ, suc, ◌+◌, ◌-◌, ◌≤◌, ◌<◌}
use native.Mathlib.Nat.{eq-or-lt_of_le, le_of_suc-le-suc}
use native.Mathlib.Decide.{dec_le}
use native.Mathlib.Omega.{arith}
use lib.Dec.{ltb}
use lib.ListN.{length, set, length-set}
use lib.Seq.{get_or-set_same, get_or-set_other}
use Rattle.lattice.specs.Lists.{at}
use Rattle.lattice.specs.Numbering.{Numbering}
use Rattle.net.specs.Net.{Net, places}
use Rattle.net.specs.Order.{places_before, position, order, InOrder, Run}
use Rattle.net.proofs.Sum.{sum_same}
use Rattle.net.proofs.Order.{sum_below, ltb_iff, before-site, order-stage, order-segment, order-repeater, numbering}

pub order-start : (net : Net) (orders positions : List ℕ) → places net ≤ length orders → places net ≤ length positions → InOrder net 0 orders positions
order-start net orders positions h l = record { long = h; wide = l; ordered = λ t m. absurd (omega arith); stands = λ t m. absurd (omega arith) }

-- r repeaters sit before segment i, and the others from it on.
record SitesBefore (net : Net) (i r : ℕ) : Type 0 where
  pub few : r ≤ net.repeaters
  pub before : (k : ℕ) → k < r → net.site k < i
  pub after : (k : ℕ) → r ≤ k → k < net.repeaters → i ≤ net.site k

-- then segment i stands as many positions further on
passed-before : {net : Net} {i r : ℕ} → SitesBefore net i r → places_before net i ≡ net.stages + i + r
unfolding places_before
passed-before {net} {i} {r} p =
    let a = sum_same net.repeaters (λ k. cond (ltb (net.site k) i) 1 0) (λ k. cond (ltb k r) 1 0)
    (λ k l. rw (ltb_iff (net.site k) i k r (λ m. back k l m (dec_le r k)) (λ m. p.before k m))) in
    let b = sum_below net.repeaters r in
    omega (arith, p.few)
  where
    back : (k : ℕ) → k < net.repeaters → net.site k < i → Dec (r ≤ k) → k < r
    back k l m (yes h) = absurd (omega (arith, p.after k h l))
    back k l m (no h) = omega arith

module _ (net : Net) (sites : (r : ℕ) → r < net.repeaters → net.site r < net.segments)
    (rising : (r s : ℕ) → r < s → s < net.repeaters → net.site r < net.site s) where
  -- the place p comes next
  pub order-step : {k : ℕ} {orders positions : List ℕ} (p : ℕ) → InOrder net k orders positions → k < places net → order net k ≡ p
      → InOrder net (suc k) (set orders k p) (set positions p k)
  order-step {k} {orders} {positions} p a h e =
      record {
        long = rw (length-set orders k p) a.long;
        wide = rw (length-set positions p k) a.wide;
        ordered = λ t l. ⊎_elim (λ (f : t ≡ k). rw f (get_or-set_same orders k p 0 (omega (arith, a.long)) ∙ sym e))
            (λ m. get_or-set_other orders k t p 0 (λ f. omega arith) ∙ a.ordered t m) (eq-or-lt_of_le (le_of_suc-le-suc l));
        stands = λ t l. ⊎_elim (λ (f : t ≡ k). rw (f, e) (get_or-set_same positions p k 0 inside))
            (λ m. get_or-set_other positions p (order net t) k 0 (apart t m) ∙ a.stands t m) (eq-or-lt_of_le (le_of_suc-le-suc l));
      }
    where
      nu : Numbering (places net) (order net) (position net)
      nu = numbering net sites rising

      inside : p < length positions
      inside = omega (arith, a.wide, nu.inside k h, e)

      apart : (t : ℕ) → t < k → order net t ≡ p → ⊥
      apart t m f = omega (arith, nu.there t (omega arith), nu.there k h, ap (position net) (f ∙ sym e))

  -- the turns of the loop: a place of a run, and the repeater behind the last one
  run-place : (start end r p : ℕ) → Run net start end r → start ≤ p → p < end → order net (p + r) ≡ p
  run-place start end r p n l h = go (dec_le (suc p) net.stages) (dec_le (suc 0) r)
    where
      before-it : net.stages ≤ p → SitesBefore net (p - net.stages) r
      before-it m =
          record {
            few = n.few;
            before = λ k g. omega (arith, n.before k g);
            after = λ k g m. omega (arith, n.after k g m);
          }

      go : Dec (suc p ≤ net.stages) → Dec (1 ≤ r) → order net (p + r) ≡ p
      go (yes a) (yes b) = absurd (omega (arith, n.before 0 b))
      go (yes a) (no b) = let e : p + r ≡ p = omega arith in rw e (order-stage net sites rising p a)
      go (no a) b =
          let m : net.stages ≤ p = omega arith in
          let e : p + r ≡ places_before net (p - net.stages) = omega (arith, passed-before (before-it m)) in
          let f : net.stages + (p - net.stages) ≡ p = omega arith in
          ap (order net) e ∙ order-segment net sites rising (p - net.stages) (omega (arith, n.within)) ∙ f

  pub put-place : {orders positions : List ℕ} (start end r p : ℕ) → Run net start end r → start ≤ p → p < end → InOrder net (p + r) orders positions
      → InOrder net (suc (p + r)) (set orders (p + r) p) (set positions p (p + r))
  put-place start end r p n l h a = order-step p a (omega (arith, n.few, n.within)) (run-place start end r p n l h)

  pub put-repeater : {orders positions : List ℕ} (r : ℕ) → r < net.repeaters → (t : ℕ) → t ≡ suc (net.stages + net.site r + r) → InOrder net t orders positions
      → InOrder net (suc t) (set orders t (net.stages + net.segments + r)) (set positions (net.stages + net.segments + r) t)
  put-repeater r h t e a =
      let f : t ≡ suc (places_before net (net.site r)) = omega (arith, before-site net sites rising r h) in
      order-step (net.stages + net.segments + r) a (omega (arith, sites r h)) (ap (order net) f ∙ order-repeater net sites rising r h)

  -- with all places in order the second list has their positions
  pub order-end : {orders positions : List ℕ} → InOrder net (places net) orders positions → (p : ℕ) → p < places net → at positions p ≡ position net p
  order-end {orders} {positions} a p h =
      let nu = numbering net sites rising in
      ap (at positions) (sym (nu.back p h)) ∙ a.stands (position net p) (nu.found p h)
