-- What hangs behind a position of a net, whatever each place shows: the next stage, or the segments at a node, or a repeater.
use mathlib.Core.Path.{◌≡◌, refl, sym, ap, ◌∙◌}
use mathlib.Core.Bool.{Bool, true, false, cond}
use Prim.Native.Nat.{ℕ, suc, ◌+◌, ◌≤◌, ◌<◌}
use native.Mathlib.Omega.{arith}
use borrow.Author.Tests.{eqb-true, eqb-false, ne_eqb}
use lib.Dec.{eqb}
use Rattle.lattice.specs.Lists.{sum}
use Rattle.lattice.proofs.Totals.{sum-order}
use Rattle.net.specs.Job.{of_kind}
use Rattle.net.specs.Net.{Net, places}
use Rattle.net.specs.Delay.{repeated, at_repeater}
use Rattle.net.specs.Driving.{behind}
use Rattle.net.specs.Places.{by_kind}
use Rattle.net.specs.Order.{places_before, position, order, driving}
use Rattle.net.proofs.Sum.{eqb-iff, sum_same, sum-zero, sum-at}
use Rattle.net.proofs.Places.{is-stage, is-segment, is-repeater, kinds, places-sum}
use Rattle.net.proofs.Order.{repeated-one, before-first, before-stages, before-only, before-next, before-behind, before-gap, numbering}

-- A stage shows f, a segment g, a repeater h.
module _ (net : Net) (f g h : ℕ → ℕ) where
  stages_at : ℕ → ℕ
  stages_at q = sum net.stages (λ s. cond (eqb s q) (f s) 0)

  segments_at : ℕ → ℕ
  segments_at q = sum net.segments (λ i. cond (eqb (places_before net (net.parent i)) q) (g i) 0)

  repeaters_at : ℕ → ℕ
  repeaters_at q = sum net.repeaters (λ r. cond (eqb (suc (places_before net (net.site r))) q) (h r) 0)

  abbrev hang : ℕ → ℕ
  hang q = stages_at q + segments_at q + repeaters_at q

  hang-kinds : (q : ℕ)
      → sum (places net) (λ p. cond (eqb (by_kind net (λ s. s) (λ i. places_before net (net.parent i)) (λ r. suc (places_before net (net.site r))) p) q) (by_kind net f g h p) 0)
      ≡ hang q
  unfolding of_kind stages_at segments_at repeaters_at
  hang-kinds q =
      places-sum net _ _ _ _ (λ s l. rw (is-stage net s l)) (λ i l. let k = is-segment net i l in rw (k.0, k.1, k.2))
      (λ r l. let k = is-repeater net r in rw (k.0, k.1, k.2))

  -- the segments that hang at the node q of the tree
  abbrev pub at_node : ℕ → ℕ
  at_node q = sum net.segments (λ i. cond (eqb (net.parent i) q) (g i) 0)

  -- before the last stage hangs the next
  hang-stage : (q : ℕ) → q < net.stages → hang q ≡ f q
  unfolding stages_at segments_at repeaters_at
  hang-stage q l =
      let a = sum-at net.stages q f l in
      let b = sum-zero net.segments (λ i. cond (eqb (places_before net (net.parent i)) q) (g i) 0)
      (λ i m. rw (ne_eqb (places_before net (net.parent i)) q (λ e. omega (arith, before-stages net (net.parent i))))) in
      let c = sum-zero net.repeaters (λ r. cond (eqb (suc (places_before net (net.site r))) q) (h r) 0)
      (λ r m. rw (ne_eqb (suc (places_before net (net.site r))) q (λ e. omega (arith, before-stages net (net.site r))))) in
      omega arith

  no-stages : (q : ℕ) → net.stages ≤ q → stages_at q ≡ 0
  unfolding stages_at
  no-stages q l = sum-zero net.stages _ (λ s m. rw (ne_eqb s q (λ e. omega arith)))

  segments-node : (q : ℕ) → segments_at (places_before net q) ≡ at_node q
  unfolding segments_at
  segments-node q =
      sum_same net.segments _ _
      (λ i l. rw (eqb-iff (places_before net (net.parent i)) (places_before net q) (net.parent i) q (before-only net (net.parent i) q) (λ e. ap (places_before net) e)))

  repeaters-segment : (i : ℕ) → repeaters_at (suc (places_before net i)) ≡ at_repeater net h i
  unfolding repeaters_at at_repeater
  repeaters-segment i =
      sum_same net.repeaters _ _
      (λ r l. rw (eqb-iff (suc (places_before net (net.site r))) (suc (places_before net i)) (net.site r) i
      (λ e. before-only net (net.site r) i (omega arith)) (λ e. ap (λ (j : ℕ). suc (places_before net j)) e)))

  module _ (sites : (r : ℕ) → r < net.repeaters → net.site r < net.segments)
      (rising : (r s : ℕ) → r < s → s < net.repeaters → net.site r < net.site s) where
    -- at a segment with a repeater no segment hangs, and at a node of the tree no repeater
    no-segments : (r : ℕ) → r < net.repeaters → segments_at (suc (places_before net (net.site r))) ≡ 0
    unfolding segments_at
    no-segments r l =
        sum-zero net.segments _
        (λ i m. rw (ne_eqb (places_before net (net.parent i)) (suc (places_before net (net.site r))) (before-gap net sites rising (net.parent i) r l)))

    no-repeaters : (q : ℕ) → repeaters_at (places_before net q) ≡ 0
    unfolding repeaters_at
    no-repeaters q =
        sum-zero net.repeaters _
        (λ r l. rw (ne_eqb (suc (places_before net (net.site r))) (places_before net q) (λ e. before-gap net sites rising q r l (sym e))))

    hang-node : (q : ℕ) → hang (places_before net q) ≡ at_node q
    hang-node q = omega (arith, no-stages (places_before net q) (before-stages net q), segments-node q, no-repeaters q)

    -- behind each kind of place
    behind-stage : (s : ℕ) → s < net.stages → hang (suc s) ≡ cond (eqb (suc s) net.stages) (at_node 0) (f (suc s))
    behind-stage s l = go (eqb (suc s) net.stages) refl
      where
        go : (b : Bool) → eqb (suc s) net.stages ≡ b → hang (suc s) ≡ cond b (at_node 0) (f (suc s))
        go true e = let k : suc s ≡ places_before net 0 = omega (arith, eqb-true (suc s) net.stages e, before-first net) in ap hang k ∙ hang-node 0
        go false e = hang-stage (suc s) (omega (arith, eqb-false (suc s) net.stages e))

    behind-segment : (i : ℕ) → hang (suc (places_before net i)) ≡ cond (repeated net i) (at_repeater net h i) (at_node (suc i))
    behind-segment i = go (repeated net i) refl
      where
        go : (b : Bool) → repeated net i ≡ b → hang (suc (places_before net i)) ≡ cond b (at_repeater net h i) (at_node (suc i))
        go true e =
            let one = repeated-one net i e in
            let none : segments_at (suc (places_before net i)) ≡ 0 = rw one.2 at (no-segments one.0 one.1) in
            omega (arith, no-stages (suc (places_before net i)) (omega (arith, before-stages net i)), repeaters-segment i)
        go false e = ap hang (sym (before-next net i e)) ∙ hang-node (suc i)

    behind-repeater : (r : ℕ) → r < net.repeaters → hang (suc (suc (places_before net (net.site r)))) ≡ at_node (suc (net.site r))
    behind-repeater r l = ap hang (sym (before-behind net sites rising r l)) ∙ hang-node (suc (net.site r))

    abbrev pub hanging : ℕ → ℕ
    hanging p =
        by_kind net (λ s. cond (eqb (suc s) net.stages) (at_node 0) (f (suc s))) (λ i. cond (repeated net i) (at_repeater net h i) (at_node (suc i)))
        (λ r. at_node (suc (net.site r))) p

    hang-place : (p : ℕ) → p < places net → hang (suc (position net p)) ≡ hanging p
    unfolding of_kind
    hang-place =
        kinds net _ (λ s l. rw (is-stage net s l) (behind-stage s l)) (λ i l. let k = is-segment net i l in rw (k.0, k.1, k.2) (behind-segment i))
        (λ r l. let k = is-repeater net r in rw (k.0, k.1, k.2) (behind-repeater r l))

    -- behind position t hangs what hangs behind its place
    pub behind-place : (shown : ℕ → ℕ) → ((u : ℕ) → u < places net → shown u ≡ by_kind net f g h (order net u)) → (t : ℕ) → t < places net
        → behind (driving net) shown t ≡ hanging (order net t)
    unfolding behind
    behind-place shown same t l =
        let nu = numbering net sites rising in
        sum-order nu
        (λ p. cond (eqb (by_kind net (λ s. s) (λ i. places_before net (net.parent i)) (λ r. suc (places_before net (net.site r))) p) (suc t)) (by_kind net f g h p) 0)
        _ (λ u m. rw (same u m))
        ∙ hang-kinds (suc t) ∙ ap (λ (q : ℕ). hang (suc q)) (sym (nu.there t l)) ∙ hang-place (order net t) (nu.inside t l)
