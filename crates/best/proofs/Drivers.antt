-- The place that drives another, by the kind of place, and the path from driven to driver by place.
use mathlib.Core.Path.{◌≡◌, sym, ap, ◌∙◌}
use mathlib.Core.Bool.{Bool, true, false}
use mathlib.Core.List.{List}
use Prim.Native.Nat.{ℕ, suc, ◌+◌, ◌-◌, ◌≤◌, ◌<◌}
use native.Mathlib.Omega.{arith}
use Rattle.std.specs.Prelude.{Option, Some, None, get_or}
use Rattle.lattice.specs.Lists.{at}
use Rattle.net.specs.declared.Counts.{Counts}
use Rattle.net.specs.Job.{places_by}
use Rattle.net.specs.Net.{Net, net_by}
use Rattle.net.specs.Checked.{Checked, AllowedBy}
use Rattle.net.specs.Driving.{slope}
use Rattle.net.specs.Order.{places_before, position, order, by_position, placed_by, driving_by}
use Rattle.net.proofs.Order.{before-first, before-next, before-behind, position-stage, position-segment, position-repeater}
use Rattle.net.proofs.Places.{of-stage, of-segment, of-repeater}
use Rattle.net.proofs.Questions.{ordered}
use Rattle.net.proofs.InOrder.{placed, in_limits}
use Rattle.job.specs.Ranges.{driver_at}
use Rattle.parts.specs.Seats.{Seated}
use Rattle.parts.proofs.Seating.{seat-none}
use Rattle.place.proofs.Steps.{slope-same, driver-same}
use Rattle.best.specs.Around.{Drives, UpstreamOf}
use Rattle.best.proofs.ByPosition.{nu, allowed-by-position, own-index}
use Rattle.best.proofs.Path.{Climbed, climbed-start, climbed-top, climbed-fits, climbed-driver, climbed-wire}

-- What the loop knows at place q of the path upstream of place p.
abbrev pub ClimbedTo : Counts → (b x : List ℕ) → (p q sum : ℕ) → Type 0
ClimbedTo c b x p q sum = (q < places_by c) × Climbed (driving_by c b) (by_position (net_by c b) x) (position (net_by c b) p) ((placed_by c b).hangs_at q) sum

module _ {c : Counts} {b : List ℕ} (k : Checked c b) where
  abbrev net : Net
  net = net_by c b

  abbrev hangs : ℕ → ℕ
  hangs = (placed_by c b).hangs_at

  stage_at : (s : ℕ) → s < c.stages → position net s ≡ s
  stage_at = position-stage net (ordered k).sites (ordered k).rising

  segment-at : (i : ℕ) → i < c.segments → position net (c.stages + i) ≡ places_before net i
  segment-at = position-segment net (ordered k).sites (ordered k).rising

  repeater-at : (r : ℕ) → position net (c.stages + c.segments + r) ≡ suc (places_before net (net.site r))
  repeater-at = position-repeater net (ordered k).sites (ordered k).rising

  stage-hangs : (p : ℕ) → p < c.stages → hangs p ≡ p
  stage-hangs p h = of-stage _ _ (λ s. s) (λ i. places_before net (net.parent i)) (λ r. suc (places_before net (net.site r))) p h

  pub drives-stage : (p : ℕ) → 0 < p → p < c.stages → Drives c b p (p - 1)
  drives-stage p n h = (omega arith, omega (arith, stage_at (p - 1) (omega arith), stage-hangs p h))

  -- of the other places the number behind the stages is taken, as the code has it
  module _ (p : ℕ) (h : c.stages ≤ p) where
    pub drives-repeater : (s : ℕ) → c.segments ≤ p - c.stages → p < places_by c → s ≡ net.site (p - c.stages - c.segments) → Drives c b p (c.stages + s)
    drives-repeater s l m e =
        let r : p - (c.stages + c.segments) ≡ p - c.stages - c.segments = omega arith in
        let i : s < c.segments = rw e (k.sites (p - c.stages - c.segments) (omega arith)) in
        let z =
        of-repeater _ _ (λ z. z) (λ z. places_before net (net.parent z)) (λ z. suc (places_before net (net.site z))) p (omega arith)
        ∙ ap (λ z. suc (places_before net (net.site z))) r ∙ ap (λ z. suc (places_before net z)) (sym e) in
        (omega (arith, i), omega (arith, segment-at s i, z))

    -- a segment by the node that it hangs at
    module _ (node : ℕ) (l : p - c.stages < c.segments) (e : node ≡ net.parent (p - c.stages)) where
      segment-hangs : hangs p ≡ places_before net node
      segment-hangs =
          of-segment _ _ (λ z. z) (λ z. places_before net (net.parent z)) (λ z. suc (places_before net (net.site z))) p h (omega arith)
          ∙ ap (places_before net) (sym e)

      pub drives-source : node ≡ 0 → Drives c b p (c.stages - 1)
      drives-source z =
          let g = segment-hangs ∙ ap (places_before net) z ∙ before-first net in
          (omega (arith, k.some_stage), omega (arith, g, k.some_stage, stage_at (c.stages - 1) (omega (arith, k.some_stage))))

      module _ (n : node ≡ 0 → ⊥) where
        pub parent-inside : node - 1 < c.segments
        parent-inside = omega (arith, n, e, k.parents (p - c.stages) l)

        far-end : hangs p ≡ places_before net (suc (node - 1))
        far-end = segment-hangs ∙ ap (places_before net) (omega (arith, n))

        module _ {seats : List (Option ℕ)} (s : Seated net seats) where
          pub drives-repeated : (r : ℕ) → get_or seats (node - 1) None ≡ Some r → Drives c b p (c.stages + c.segments + r)
          drives-repeated r g =
              let z = s.only (node - 1) r parent-inside g in
              let y = before-behind net (ordered k).sites (ordered k).rising r z.0 in
              let x = far-end ∙ sym (ap (λ i. places_before net (suc i)) z.1) in
              (omega (arith, z.0), omega (arith, repeater-at r, y, x))

          pub drives-wire : get_or seats (node - 1) None ≡ None → Drives c b p (c.stages + (node - 1))
          drives-wire g =
              let z = before-next net (node - 1) (seat-none net s (node - 1) g) in
              (omega (arith, parent-inside), omega (arith, segment-at (node - 1) parent-inside, z, far-end))

  -- along the path upstream of place p of an allowed sizing x
  module _ (x : List ℕ) (a : AllowedBy c b x) (p : ℕ) (few : p < places_by c) where
    abbrev here : ℕ → ℕ
    here = position net

    hangs-here : (q : ℕ) → q < places_by c → (driving_by c b).hangs_at (here q) ≡ hangs q
    hangs-here q h = ap hangs ((nu k).back q h)

    pub to_start : ClimbedTo c b x p p 0
    to_start = (few, rw (hangs-here p few) at (climbed-start (driving_by c b) (placed k) (in_limits k) _ (allowed-by-position k x a) (here p) ((nu k).found p few)))

    -- the first stage hangs at no place
    pub to-top : (q sum : ℕ) → q ≡ 0 → ClimbedTo c b x p q sum → UpstreamOf c b x p sum
    to-top q sum e i =
        climbed-top (driving_by c b) (placed k) (in_limits k) _ (allowed-by-position k x a) (here p) ((nu k).found p few) _ sum i.1
        (ap hangs e ∙ stage-hangs 0 (omega (arith, k.some_stage)))

    -- from place q to place d, which drives it and has the slope s
    module _ (q d sum s : ℕ) (i : ClimbedTo c b x p q sum) (up : Drives c b q d) (e : s ≡ slope (placed_by c b) d (at x d)) where
      back : order net (here d) ≡ d
      back = (nu k).back d up.0

      behind-here : Climbed (driving_by c b) (by_position net x) (here p) (suc (here d)) sum
      behind-here = rw (← up.1) at i.1

      slope-here : s ≡ slope (driving_by c b) (here d) (at (by_position net x) (here d))
      slope-here =
          e ∙ slope-same c b (here d) (at x d) d (sym back)
          ∙ ap (slope (driving_by c b) (here d)) (sym (own-index k x d up.0))

      driver-here : {v : Bool} → driver_at c d ≡ v → (driving_by c b).driver (here d) ≡ v
      driver-here g = sym (driver-same c b (here d) d (sym back)) ∙ g

      pub to-fits : sum + s ≤ 496128000000
      to-fits =
          climbed-fits (driving_by c b) (placed k) (in_limits k) _ (allowed-by-position k x a) (here p) ((nu k).found p few) (here d) sum s behind-here slope-here

      pub to-driver : driver_at c d ≡ true → UpstreamOf c b x p (sum + s)
      to-driver g =
          climbed-driver (driving_by c b) (placed k) (in_limits k) _ (allowed-by-position k x a) (here p) ((nu k).found p few) (here d) sum s behind-here slope-here (driver-here g)

      pub to-wire : driver_at c d ≡ false → ClimbedTo c b x p d (sum + s)
      to-wire g = (
        up.0,
        rw (hangs-here d up.0) at
            (climbed-wire (driving_by c b) (placed k) (in_limits k) _ (allowed-by-position k x a) (here p) ((nu k).found p few) (here d) sum s behind-here slope-here (driver-here g)),
      )

      pub to-less : hangs d < hangs q
      to-less = omega (arith, (placed k).falls (here d) ((nu k).found d up.0), hangs-here d up.0, up.1)
