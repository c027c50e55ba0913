-- The weight of a place and the load that it drives, by its kind, as the table of the nodes has them.
use mathlib.Core.Path.{◌≡◌, sym, ap, ◌∙◌}
use mathlib.Core.List.{List}
use Prim.Native.Nat.{ℕ, suc, ◌+◌, ◌*◌, ◌-◌, ◌≤◌, ◌<◌}
use native.Mathlib.Numerals.{add-one}
use native.Mathlib.Omega.{arith}
use borrow.Author.Tests.{lt-ltb, le-ltb}
use Rattle.net.specs.declared.Counts.{Counts}
use Rattle.net.specs.Job.{of_kind, places_by}
use Rattle.net.specs.Net.{Net, net_by}
use Rattle.net.specs.Delay.{branches, branches_load, load_under, stage_load}
use Rattle.net.specs.Segments.{weight_below, weight_behind, total_weight}
use Rattle.net.specs.Checked.{Checked, InRanges}
use Rattle.net.specs.Places.{by_kind}
use Rattle.net.specs.Order.{position, placed_by}
use Rattle.net.proofs.Bound.{load_under-small}
use Rattle.net.proofs.Exchange.{branches-whole}
use Rattle.net.proofs.Places.{of-stage, of-segment, of-repeater}
use Rattle.net.proofs.Positions.{driven-place}
use Rattle.net.proofs.Questions.{ordered, limited}
use Rattle.parts.specs.declared.Part.{Part}
use Rattle.parts.specs.Entries.{part_at}
use Rattle.parts.specs.Tally.{branches_of, Tally, Hanging}
use Rattle.nodes.specs.Counted.{Counted}
use Rattle.best.specs.Around.{DrivenAt}
use Rattle.best.proofs.ByPosition.{nu}

module _ {c : Counts} {b : List ℕ} (k : Checked c b) where
  abbrev net : Net
  net = net_by c b

  -- The segment of a repeater, whose number the code has by taking the stages and then the segments from its place.
  module _ (p : ℕ) (few : p < places_by c) (h : c.stages + c.segments ≤ p) (s : ℕ) (e : s ≡ net.site (p - c.stages - c.segments)) where
    site-is : s ≡ net.site (p - (c.stages + c.segments))
    site-is = let n : p - c.stages - c.segments ≡ p - (c.stages + c.segments) = omega arith in e ∙ ap net.site n

    pub site-few : s + 1 ≤ c.segments
    site-few = omega (arith, site-is, k.sites (p - (c.stages + c.segments)) (omega arith))

  -- The weight of a place.
  module _ {x : List ℕ} {nodes : List Part} (w : Counted net x nodes) (p : ℕ) where
    weight-there : (q : ℕ) → q ≤ c.segments → (part_at nodes q).weight ≡ branches net net.weight q
    weight-there q h = (w.held q h).weight

    pub stage-weight : p < c.stages → 2 * (part_at nodes 0).weight ≡ (placed_by c b).weight p
    unfolding of_kind total_weight
    stage-weight h =
        rw (lt-ltb p c.stages h) (omega (arith, weight-there 0 (omega arith), branches-whole net (ordered k).parents net.weight))

    pub segment-weight : c.stages ≤ p → p - c.stages < c.segments → (v : ℕ) → v ≡ net.weight (p - c.stages)
        → v + (part_at nodes (p - c.stages + 1)).weight ≡ (placed_by c b).weight p
    unfolding of_kind weight_below
    segment-weight h m v f =
        let n : p < c.stages + c.segments = omega arith in
        rw (le-ltb p c.stages h, lt-ltb p (c.stages + c.segments) n, add-one (p - c.stages)) (omega (arith, f, weight-there (suc (p - c.stages)) m))

    pub repeater-weight : p < places_by c → c.stages + c.segments ≤ p → (s : ℕ) → s ≡ net.site (p - c.stages - c.segments)
        → 2 * (part_at nodes (s + 1)).weight ≡ (placed_by c b).weight p
    unfolding of_kind weight_behind
    repeater-weight few h s f =
        let m : c.stages ≤ p = omega arith in
        let r = p - (c.stages + c.segments) in
        let n : s + 1 ≡ suc (net.site r) = omega (arith, site-is p few h s f) in
        rw (le-ltb p c.stages m, le-ltb p (c.stages + c.segments) h, n)
        (omega (arith, weight-there (suc (net.site r)) (omega (arith, n, site-few p few h s f))))

  -- The load that a place drives.
  module _ (x : List ℕ) (p : ℕ) (few : p < places_by c) where
    abbrev drives : ℕ → ℕ
    drives a = by_kind net (stage_load net x) (load_under net x) (λ r. branches_load net x (suc (net.site r))) a

    driven-is : (l : ℕ) → l ≡ drives p → DrivenAt c b x p l
    driven-is l e = e ∙ sym (driven-place net (ordered k) x (position net p) ((nu k).found p few) ∙ ap drives ((nu k).back p few))

    pub stage-driven : p < c.stages → (l : ℕ) → l ≡ stage_load net x p → DrivenAt c b x p l
    stage-driven h l e = driven-is l (e ∙ sym (of-stage c.stages c.segments _ _ _ p h))

    module _ (h : c.stages ≤ p) (m : p - c.stages < c.segments) (sink : ℕ) (f : sink ≡ net.sink (p - c.stages))
        (part : Part) (g : Hanging net x (p - c.stages) part) where
      under-is : sink + part.load.0 ≡ load_under net x (p - c.stages)
      under-is = omega (arith, f, g.load)

      pub segment-fits : InRanges net x → sink + part.load.0 ≤ 13700000
      segment-fits a = omega (arith, under-is, load_under-small net (ordered k) (limited k) x a (p - c.stages) m)

      pub segment-driven : (l : ℕ) → l ≡ sink + part.load.0 → DrivenAt c b x p l
      segment-driven l e = driven-is l (e ∙ under-is ∙ sym (of-segment c.stages c.segments _ _ _ p h (omega arith)))

    pub repeater-driven : c.stages + c.segments ≤ p → (s : ℕ) → s ≡ net.site (p - c.stages - c.segments)
        → (part : Part) → Tally net x branches_of (s + 1) part → DrivenAt c b x p part.load.0
    repeater-driven h s f part t =
        let n : s + 1 ≡ suc (net.site (p - (c.stages + c.segments))) = omega (arith, site-is p few h s f) in
        driven-is _ (t.load ∙ ap (branches_load net x) n ∙ sym (of-repeater c.stages c.segments _ _ _ p h))
