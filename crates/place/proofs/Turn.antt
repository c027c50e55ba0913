-- One turn of the loops that drive: what is known at its position, and what is known after it. n positions are left before the turn.
use Rattle.std.proofs.Common.{◌≡◌, ap, ◌∙◌, subst, ℕ, suc, ◌+◌, ◌*◌, ◌-◌, ◌≤◌, ◌<◌, List, arith}
use lib.ListN.{get_or, set}
use Rattle.quantity.specs.declared.Capacitance.{Capacitance}
use Rattle.lattice.specs.Lists.{at}
use Rattle.net.specs.Job.{places_by}
use Rattle.net.specs.Net.{net_by}
use Rattle.net.specs.Driving.{Driving, load_at, delay_at, cost}
use Rattle.net.specs.Order.{placed_by, driving_by}
use Rattle.net.proofs.InOrder.{allowed-by, placed, in_limits}
use Rattle.positions.specs.declared.Arranged.{Arranged}
use Rattle.positions.specs.declared.Bounds.{Bounds}
use Rattle.place.specs.Figures.{loads}
use Rattle.place.specs.ByCounts.{BoundsOf}
use Rattle.place.proofs.Loads.{loads-set, loads-at, drives-is}
use Rattle.place.proofs.Steps.{place_at_lem, index-at, shown-same, shown_by, cost-same}
use Rattle.place.proofs.Driving.{Driven, drives-small, gathers-small, driving-free, driving-held}
use Rattle.place.proofs.Adding.{Added, added-fits, added-free, added-held}

abbrev net_of : Arranged → Driving
net_of a = driving_by a.job.counts a.job.bytes.now

-- What is known at the position t, which drives the load v.
pub record Turn (a : Arranged) (bounds : Bounds) (gathered : List Capacitance) (t v : ℕ) : Type 0 where
  pub load : v ≡ (net_of a).sink t + at (loads gathered) (suc t)
  pub small : v ≤ 13700000
  pub place : at a.order.now t < places_by a.job.counts
  pub index : at bounds.lower.now t ≤ (net_by a.job.counts a.job.bytes.now).highest (at a.order.now t)
  pub node : at a.hangs.now t ≡ (net_of a).hangs_at t
  pub gathers : (get_or gathered (at a.hangs.now t) (record { 0 = 0 })).0 ≤ 1048800000
  pub shows : load_at (placed_by a.job.counts a.job.bytes.now) (at a.order.now t) (at bounds.lower.now t) v ≤ 13800000

module _ (a : Arranged) {bounds : Bounds} (of : BoundsOf a.job.counts a.job.bytes.now bounds) {n : ℕ} (driven gathered : List Capacitance) where
  module _ (i : Driven (net_of a) bounds.lower.now bounds.upper.now n (loads driven) (loads gathered)) (some : 0 < n) (few : n ≤ places_by a.job.counts) where
    passed : Driven (net_of a) bounds.lower.now bounds.upper.now (suc (n - 1)) (loads driven) (loads gathered)
    passed = let e : n ≡ suc (n - 1) = omega arith in subst (λ (m : ℕ). Driven (net_of a) bounds.lower.now bounds.upper.now m (loads driven) (loads gathered)) e i

    -- where the sink s and the load at the node behind the position are v
    pub turn : {s v : ℕ} → s ≡ (placed_by a.job.counts a.job.bytes.now).sink (at a.order.now (n - 1)) → v ≡ s + (get_or gathered (n - 1 + 1) (record { 0 = 0 })).0 → Turn a bounds gathered (n - 1) v
    turn {s} {v} e f =
        let h : n - 1 < places_by a.job.counts = omega arith in
        let o = a.in_order.held (n - 1) h in
        let load = drives-is gathered (n - 1) s _ v (e ∙ ap (placed_by a.job.counts a.job.bytes.now).sink o) f in
        let most = drives-small (net_of a) (placed a.job.checked) (in_limits a.job.checked) bounds.lower.now bounds.upper.now of.lower (n - 1) h (loads driven) (loads gathered) passed in
        let small : v ≤ 13700000 = omega arith in
        let node = a.nodes.held (n - 1) h in
        let falls = (placed a.job.checked).falls (n - 1) h in
        let high = ((allowed-by (net_of a) bounds.lower.now).0 of.lower).high (n - 1) h in
        record {
          load = load;
          small = small;
          place = place_at_lem a.job.checked a.in_order (n - 1) h;
          index = index-at bounds.lower.now a.in_order of.lower (n - 1) h;
          node = node;
          gathers = omega (arith, loads-at gathered (at a.hangs.now (n - 1)), gathers-small (net_of a) (placed a.job.checked) (in_limits a.job.checked) bounds.lower.now bounds.upper.now of.lower (n - 1) h (loads driven) (loads gathered) passed (at a.hangs.now (n - 1)) (omega arith));
          shows = rw o (shown_by a.job.checked (n - 1) (at bounds.lower.now (n - 1)) v h high small);
        }

    -- after the turn of a free position
    pub turn-free : {v : Capacitance} → Turn a bounds gathered (n - 1) v.0 → at bounds.lower.now (n - 1) < at bounds.upper.now (n - 1)
        → Driven (net_of a) bounds.lower.now bounds.upper.now (n - 1) (loads (set driven (n - 1) v)) (loads gathered)
    turn-free {v} t h =
        rw (loads-set driven (n - 1) v) (driving-free (net_of a) (placed a.job.checked) (in_limits a.job.checked) bounds.lower.now bounds.upper.now of.lower (n - 1) (omega arith) (loads driven) (loads gathered) passed v.0 t.load h)

    -- after that of a held one, which shows the load s
    pub turn-held : {v s u : Capacitance} → Turn a bounds gathered (n - 1) v.0 → at bounds.upper.now (n - 1) ≤ at bounds.lower.now (n - 1)
        → s.0 ≡ load_at (placed_by a.job.counts a.job.bytes.now) (at a.order.now (n - 1)) (at bounds.lower.now (n - 1)) v.0 → u.0 ≡ (get_or gathered (at a.hangs.now (n - 1)) (record { 0 = 0 })).0 + s.0
        → Driven (net_of a) bounds.lower.now bounds.upper.now (n - 1) (loads (set driven (n - 1) v)) (loads (set gathered (at a.hangs.now (n - 1)) u))
    turn-held {v} {s} {u} t h f g =
        rw (loads-set driven (n - 1) v, loads-set gathered (at a.hangs.now (n - 1)) u, t.node)
        (driving-held (net_of a) (placed a.job.checked) (in_limits a.job.checked) bounds.lower.now bounds.upper.now of.lower (n - 1) (omega arith) (loads driven) (loads gathered) passed v.0 t.load s.0 u.0 h
        (f ∙ shown-same a.job.checked (n - 1) _ _ _ (a.in_order.held (n - 1) (omega arith)))
        (g ∙ ap (λ (w : ℕ). w + s.0) (loads-at gathered (at a.hangs.now (n - 1)) ∙ ap (at (loads gathered)) t.node)))

  -- The same with what the positions add.
  module _ {sum : ℕ} (i : Added (net_of a) bounds.lower.now bounds.upper.now n (loads driven) (loads gathered) sum) (some : 0 < n) (few : n ≤ places_by a.job.counts) where
    passed-adding : Added (net_of a) bounds.lower.now bounds.upper.now (suc (n - 1)) (loads driven) (loads gathered) sum
    passed-adding = let e : n ≡ suc (n - 1) = omega arith in subst (λ (m : ℕ). Added (net_of a) bounds.lower.now bounds.upper.now m (loads driven) (loads gathered) sum) e i

    pub adding-free : {v : Capacitance} → Turn a bounds gathered (n - 1) v.0 → at bounds.lower.now (n - 1) < at bounds.upper.now (n - 1)
        → Added (net_of a) bounds.lower.now bounds.upper.now (n - 1) (loads (set driven (n - 1) v)) (loads gathered) sum
    adding-free {v} t h =
        rw (loads-set driven (n - 1) v) (added-free (net_of a) (placed a.job.checked) (in_limits a.job.checked) bounds.lower.now bounds.upper.now of.lower (n - 1) (omega arith) (loads driven) (loads gathered) sum passed-adding v.0 t.load h)

    -- a held position of the weight w adds d
    module _ {v : Capacitance} (t : Turn a bounds gathered (n - 1) v.0) (h : at bounds.upper.now (n - 1) ≤ at bounds.lower.now (n - 1)) {w d : ℕ} (weighs : w ≡ (net_of a).weight (n - 1))
        (adds : d ≡ cost (placed_by a.job.counts a.job.bytes.now) w 0 (at a.order.now (n - 1)) v.0 (at bounds.lower.now (n - 1))) where
      own : d ≡ (net_of a).weight (n - 1) * delay_at (net_of a) (n - 1) (at bounds.lower.now (n - 1)) v.0
      own =
          let e = adds ∙ cost-same a.job.counts a.job.bytes.now w 0 (n - 1) v.0 (at bounds.lower.now (n - 1)) _ (a.in_order.held (n - 1) (omega arith)) in
          let f = rw weighs at e in
          omega arith

      pub adding-fits : sum + d ≤ 6821760000000000000
      adding-fits =
          omega (arith, own, added-fits (net_of a) (placed a.job.checked) (in_limits a.job.checked) bounds.lower.now bounds.upper.now of.lower (n - 1) (omega arith) (loads driven) (loads gathered) sum passed-adding v.0 t.load h)

      pub adding-held : {s u : Capacitance} → s.0 ≡ load_at (placed_by a.job.counts a.job.bytes.now) (at a.order.now (n - 1)) (at bounds.lower.now (n - 1)) v.0
          → u.0 ≡ (get_or gathered (at a.hangs.now (n - 1)) (record { 0 = 0 })).0 + s.0 → {more : ℕ} → more ≡ sum + d
          → Added (net_of a) bounds.lower.now bounds.upper.now (n - 1) (loads (set driven (n - 1) v)) (loads (set gathered (at a.hangs.now (n - 1)) u)) more
      adding-held {s} {u} f g {more} k =
          rw (loads-set driven (n - 1) v, loads-set gathered (at a.hangs.now (n - 1)) u, t.node)
          (added-held (net_of a) (placed a.job.checked) (in_limits a.job.checked) bounds.lower.now bounds.upper.now of.lower (n - 1) (omega arith) (loads driven) (loads gathered) sum passed-adding v.0 t.load s.0 u.0 more h
          (f ∙ shown-same a.job.checked (n - 1) _ _ _ (a.in_order.held (n - 1) (omega arith)))
          (g ∙ ap (λ (x : ℕ). x + s.0) (loads-at gathered (at a.hangs.now (n - 1)) ∙ ap (at (loads gathered)) t.node))
          (k ∙ ap (λ (x : ℕ). sum + x) own))
