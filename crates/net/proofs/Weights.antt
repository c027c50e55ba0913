-- The weights by position, as one pass from the last position to the first gathers them: what a position drives is its own sink and what those behind it
-- drive; a driver counts it twice.
use mathlib.Core.Path.{◌≡◌, refl, sym, ap, ◌∙◌}
use mathlib.Core.Bool.{Bool, true, false, cond}
use Prim.Native.Nat.{ℕ, suc, ◌+◌, ◌≤◌, ◌<◌}
use native.Mathlib.Omega.{arith}
use lib.Dec.{eqb}
use Rattle.lattice.specs.Lists.{sum}
use Rattle.net.specs.Job.{of_kind}
use Rattle.net.specs.Net.{Net, places}
use Rattle.net.specs.Delay.{branches, repeated, at_repeater}
use Rattle.net.specs.Segments.{weight_below, weight_behind, total_weight}
use Rattle.net.specs.Checked.{Ordered}
use Rattle.net.specs.Driving.{behind}
use Rattle.net.specs.Places.{by_kind}
use Rattle.net.specs.Order.{order, weight_driven, driving}
use Rattle.net.proofs.Sum.{eqb-iff, sum_same, sum-at}
use Rattle.net.proofs.Branches.{branches-sum}
use Rattle.net.proofs.Exchange.{branches-whole, weight-below}
use Rattle.net.proofs.Places.{is-stage, is-segment, is-repeater, kinds}
use Rattle.net.proofs.Order.{repeated-one, sites-only, numbering}
use Rattle.net.proofs.Hanging.{hanging, behind-place}

module _ (net : Net) (o : Ordered net) where
  -- the weight at a node of the tree
  node : (q : ℕ) → q ≤ net.segments → sum net.segments (λ i. cond (eqb (net.parent i) q) (weight_below net i) 0) ≡ branches net net.weight q
  unfolding weight_below
  node q h = sym (branches-sum net o.parents (λ i l. net.weight i + l) q h)

  node-source : sum net.segments (λ i. cond (eqb (net.parent i) 0) (weight_below net i) 0) ≡ total_weight net
  unfolding total_weight
  node-source = node 0 (omega arith) ∙ branches-whole net o.parents net.weight

  node-behind : (i : ℕ) → i < net.segments → sum net.segments (λ j. cond (eqb (net.parent j) (suc i)) (weight_below net j) 0) ≡ weight_behind net i
  unfolding weight_behind
  node-behind i h = node (suc i) h

  -- no two repeaters sit at one segment
  pub repeater-one : (f : ℕ → ℕ) (r : ℕ) → r < net.repeaters → at_repeater net f (net.site r) ≡ f r
  unfolding at_repeater
  repeater-one f r h =
      sum_same net.repeaters _ (λ k. cond (eqb k r) (f k) 0)
      (λ k l. rw (eqb-iff (net.site k) (net.site r) k r (sites-only net o.sites o.rising k r l h) (λ e. ap net.site e)))
      ∙ sum-at net.repeaters r f h

  stage : (b : Bool) → total_weight net ≡ cond b (sum net.segments (λ i. cond (eqb (net.parent i) 0) (weight_below net i) 0)) (total_weight net)
  stage true = sym node-source
  stage false = refl

  segment : (i : ℕ) → i < net.segments → (b : Bool) → repeated net i ≡ b
      → weight_behind net i
      ≡ cond b (at_repeater net (λ r. weight_behind net (net.site r)) i) (sum net.segments (λ j. cond (eqb (net.parent j) (suc i)) (weight_below net j) 0))
  segment i h true e =
      let one = repeated-one net i e in
      rw (← one.2) (sym (repeater-one (λ r. weight_behind net (net.site r)) one.0 one.1))
  segment i h false e = sym (node-behind i h)

  place-weight : (p : ℕ) → p < places net
      → by_kind net (λ s. total_weight net) (weight_below net) (λ r. weight_behind net (net.site r)) p
      ≡ by_kind net (λ s. 0) net.weight (λ r. 0) p
      + hanging net (λ s. total_weight net) (weight_below net) (λ r. weight_behind net (net.site r)) o.sites o.rising p
  unfolding of_kind
  place-weight =
      kinds net _ (λ s h. rw (is-stage net s h) (omega (arith, stage (eqb (suc s) net.stages))))
      (λ i h. let k = is-segment net i h in rw (k.0, k.1, k.2) (omega (arith, weight-below net o.parents i, segment i h (repeated net i) refl)))
      (λ r h. let k = is-repeater net r in rw (k.0, k.1, k.2) (omega (arith, node-behind (net.site r) (o.sites r h))))

  pub weight-behind : (t : ℕ) → t < places net
      → weight_driven net (order net t) ≡ by_kind net (λ s. 0) net.weight (λ r. 0) (order net t) + behind (driving net) (λ u. weight_driven net (order net u)) t
  weight-behind t h =
      let a = place-weight (order net t) ((numbering net o.sites o.rising).inside t h) in
      let b = behind-place net (λ s. total_weight net) (weight_below net) (λ r. weight_behind net (net.site r)) o.sites o.rising (λ u. weight_driven net (order net u)) (λ u l. refl) t h in
      omega arith
