-- The delay by position is the scaled delay: what each position drives is what its stage, segment or repeater drives in the tree. And so all words of the
-- theory say by position what they say by place.
use mathlib.Core.Path.{◌≡◌, refl, sym}
use mathlib.Core.Bool.{true, false, cond}
use mathlib.Core.List.{List}
use Prim.Native.Nat.{ℕ, suc, ◌+◌, ◌*◌, ◌≤◌, ◌<◌}
use native.Mathlib.Omega.{arith}
use lib.Dec.{eqb}
use Rattle.lattice.specs.Lists.{at, sum}
use Rattle.lattice.specs.Numbering.{Numbering, Moved}
use Rattle.lattice.proofs.Boxes.{closed_none}
use Rattle.lattice.proofs.Totals.{sum-order}
use Rattle.lattice.proofs.Renumbering.{at-arranged, within-moved}
use Rattle.net.specs.Job.{of_kind}
use Rattle.net.specs.Net.{Net, places}
use Rattle.net.specs.Delay.{capacitance, repeater_size, under, branch_load, branches_load, load_under, stage_load, stage_delay, stages_delay, segment_delay, delay}
use Rattle.net.specs.Segments.{weight_below, weight_behind, total_weight, own_delay, own_repeater_delay}
use Rattle.net.specs.Sizings.{allowed}
use Rattle.net.specs.Checked.{Ordered, Limited, InRanges}
use Rattle.net.specs.Driving.{allowed_by, delay_at, load_at, behind, driven_load, added_delay, delay_by}
use Rattle.net.specs.Places.{by_kind}
use Rattle.net.specs.Order.{position, order, by_position, driving}
use Rattle.net.proofs.Sum.{sum_same, sum-scale}
use Rattle.net.proofs.Branches.{branches-sum}
use Rattle.net.proofs.Exchange.{delay-exchange}
use Rattle.net.proofs.Bound.{branches_load-small, load_under-small, stage_load-small}
use Rattle.net.proofs.Places.{is-stage, is-segment, is-repeater, kinds, places-sum}
use Rattle.net.proofs.Driving.{driven-only}
use Rattle.net.proofs.Hanging.{hanging, behind-place}
use Rattle.net.proofs.Order.{numbering, hangs-falls}

module _ (net : Net) (x : List ℕ) where
  -- by place: the load that it drives, and the load that it shows
  abbrev drives : ℕ → ℕ
  drives p = by_kind net (stage_load net x) (load_under net x) (λ r. branches_load net x (suc (net.site r))) p

  abbrev shows : ℕ → ℕ
  shows p = by_kind net (λ s. net.gate (at x s)) (branch_load net x) (λ r. net.gate (repeater_size net x r)) p

  -- what place p shows where it drives its load
  load-shown : (p : ℕ) → p < places net
      → cond (by_kind net (λ s. true) (λ i. false) (λ r. true) p) (net.gate (at x p))
      (by_kind net (λ s. net.output (at x p)) (λ i. net.wire_capacitance i (at x p)) (λ r. net.output (at x p)) p + drives p)
      ≡ shows p
  unfolding of_kind
  load-shown =
      kinds net _ (λ s h. rw (is-stage net s h)) (λ i h. let k = is-segment net i h in rw (k.0, k.1, k.2))
      (λ r h. let k = is-repeater net r in rw (k.0, k.1, k.2))

  -- and what it adds to the scaled delay
  abbrev weighs : ℕ → ℕ
  weighs p = by_kind net (λ s. total_weight net) (weight_below net) (λ r. weight_behind net (net.site r)) p

  adds : ℕ → ℕ
  adds p = by_kind net (λ s. 2 * total_weight net * stage_delay net x s) (own_delay net x) (own_repeater_delay net x) p

  delay-added : (p : ℕ) → p < places net
      → cond (by_kind net (λ s. true) (λ i. false) (λ r. true) p) (2 * weighs p) (weighs p)
      * (by_kind net (λ s. net.driver_resistance (at x p)) (λ i. net.wire_resistance i (at x p)) (λ r. net.driver_resistance (at x p)) p
      * (by_kind net (λ s. net.output (at x p)) (λ i. net.wire_capacitance i (at x p)) (λ r. net.output (at x p)) p
      + cond (by_kind net (λ s. true) (λ i. false) (λ r. true) p) (drives p) (2 * drives p)))
      ≡ adds p
  unfolding of_kind adds segment_delay
  delay-added =
      kinds net _ (λ s h. rw (is-stage net s h)) (λ i h. let k = is-segment net i h in rw (k.0, k.1, k.2))
      (λ r h. let k = is-repeater net r in rw (k.0, k.1, k.2))

  adds-all : sum (places net) adds
      ≡ sum net.stages (λ s. 2 * total_weight net * stage_delay net x s) + sum net.segments (own_delay net x) + sum net.repeaters (own_repeater_delay net x)
  unfolding of_kind adds
  adds-all =
      places-sum net _ _ _ _ (λ s h. rw (is-stage net s h)) (λ i h. let k = is-segment net i h in rw (k.0, k.1, k.2))
      (λ r h. let k = is-repeater net r in rw (k.0, k.1, k.2))

  -- what it drives is its sink and what hangs behind it
  module _ (parents : (i : ℕ) → i < net.segments → net.parent i ≤ i) (sites : (r : ℕ) → r < net.repeaters → net.site r < net.segments)
      (rising : (r s : ℕ) → r < s → s < net.repeaters → net.site r < net.site s) where
    node : (q : ℕ) → q ≤ net.segments → branches_load net x q ≡ sum net.segments (λ i. cond (eqb (net.parent i) q) (branch_load net x i) 0)
    node q h = branches-sum net parents (λ i l. capacitance net x i + under net x i l) q h

    place-drives : (p : ℕ) → p < places net → drives p
        ≡ by_kind net (λ s. 0) net.sink (λ r. 0) p + hanging net (λ s. net.gate (at x s)) (branch_load net x) (λ r. net.gate (repeater_size net x r)) sites rising p
    unfolding of_kind stage_load under
    place-drives =
        kinds net _ (λ s h. rw (is-stage net s h, node 0 (omega arith)) (omega arith)) (λ i h. let k = is-segment net i h in rw (k.0, k.1, k.2, node (suc i) h))
        (λ r h. let k = is-repeater net r in rw (k.0, k.1, k.2, node (suc (net.site r)) (sites r h)) (omega arith))

-- Each position drives what its place does.
module _ (net : Net) (o : Ordered net) (x : List ℕ) where
  here : (t : ℕ) → t < places net → at (by_position net x) t ≡ at x (order net t)
  here t h = at-arranged (places net) (order net) x t h

  nu : Numbering (places net) (order net) (position net)
  nu = numbering net o.sites o.rising

  shown : (t : ℕ) → t < places net → load_at (driving net) t (at (by_position net x) t) (drives net x (order net t)) ≡ shows net x (order net t)
  unfolding load_at
  shown t h = rw (here t h) (load-shown net x (order net t) (nu.inside t h))

  driven : (t : ℕ) → t < places net
      → drives net x (order net t) ≡ (driving net).sink t + behind (driving net) (λ u. load_at (driving net) u (at (by_position net x) u) (drives net x (order net u))) t
  driven t h =
      let a = place-drives net x o.parents o.sites o.rising (order net t) (nu.inside t h) in
      let b = behind-place net (λ s. net.gate (at x s)) (branch_load net x) (λ r. net.gate (repeater_size net x r)) o.sites o.rising _ shown t h in
      omega arith

  pub driven-place : (t : ℕ) → t < places net → driven_load (driving net) (by_position net x) t ≡ drives net x (order net t)
  driven-place = driven-only (driving net) (hangs-falls net o.sites o.rising o.parents) (by_position net x) (λ t. drives net x (order net t)) driven

  added : (t : ℕ) → t < places net → added_delay (driving net) (by_position net x) t ≡ adds net x (order net t)
  unfolding delay_at
  added t h = rw (driven-place t h, here t h) (delay-added net x (order net t) (nu.inside t h))

  -- the scaled delay is the sum over positions of what each adds
  pub delay-by-position : delay net x ≡ delay_by (driving net) (by_position net x)
  unfolding delay_by segment_delay stages_delay
  delay-by-position =
      let a = sum-order nu (adds net x) (added_delay (driving net) (by_position net x)) added in
      let b = adds-all net x in
      let c = sum_same net.stages (λ s. 2 * total_weight net * stage_delay net x s) (λ s. stage_delay net x s * (2 * total_weight net)) (λ s h. omega arith) in
      let d = sum-scale net.stages (2 * total_weight net) (stage_delay net x) in
      let e = delay-exchange net o.parents o.sites x in
      omega arith

-- The least delay, lean and wide, the bounds, the room and the best indices by position are those by place (`moved-alike` of the crate `lattice`).
pub driving-moved : (net : Net) → Ordered net
    → Moved (places net) (order net) (position net) (allowed net) (delay net) (allowed_by (driving net)) (delay_by (driving net))
driving-moved net o =
    within-moved (numbering net o.sites o.rising) _ _ _ _ _ _ _ _ (closed_none _) (closed_none _) (λ t h. refl) (λ t h. refl) (λ x e. refl)
    (λ x a. sym (delay-by-position net o x))

-- At the limits, what a place and so a position drives.
module _ (net : Net) (o : Ordered net) (l : Limited net) (x : List ℕ) (a : InRanges net x) where
  drives-small : (p : ℕ) → p < places net → drives net x p ≤ 13700000
  unfolding of_kind
  drives-small =
      kinds net _ (λ s h. rw (is-stage net s h) (omega (arith, stage_load-small net o l x a s h)))
      (λ i h. let k = is-segment net i h in rw (k.0, k.1, k.2) (load_under-small net o l x a i h))
      (λ r h. let k = is-repeater net r in rw (k.0, k.1, k.2) (omega (arith, branches_load-small net o l x a (suc (net.site r)) (o.sites r h))))

  pub driven-small : (t : ℕ) → t < places net → driven_load (driving net) (by_position net x) t ≤ 13700000
  driven-small t h = rw (driven-place net o x t h) (drives-small (order net t) ((nu net o x).inside t h))
