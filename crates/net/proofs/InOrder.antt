-- What passed questions give by position: the order is one in which each place stands after the one that drives it, the limits hold, and the
-- theory of the crate `lattice` holds of the sizings by position.
use mathlib.Core.Path.{◌≡◌, subst}
use mathlib.Core.Logic.{◌↔◌}
use mathlib.Core.List.{List}
use Prim.Native.Nat.{ℕ, ◌*◌, ◌^◌, ◌≤◌, ◌<◌}
use native.Mathlib.Nat.{mul-le-mul, mul-le-mul_right}
use native.Mathlib.Omega.{arith}
use Rattle.lattice.specs.Space.{Allowed, Boxed, Lattice, Submodular}
use Rattle.lattice.specs.Numbering.{Numbering, arranged}
use Rattle.lattice.proofs.Boxes.{within-lattice, closed_none}
use Rattle.lattice.proofs.Renumbering.{numbering-back, arranged-back, moved-submodular}
use Rattle.net.specs.declared.Counts.{Counts}
use Rattle.net.specs.Job.{of_kind, segment_layer}
use Rattle.net.specs.Net.{Net, places, net_by}
use Rattle.net.specs.Segments.{total_weight}
use Rattle.net.specs.Checked.{Checked, InRanges, Ordered, Limited}
use Rattle.net.specs.Driving.{Driving, allowed_by, delay_at, load_at, slope, driven_load, delay_by, Placed, InLimits}
use Rattle.net.specs.Order.{position, order, by_position, weight_driven, by_place, driving, placed_by, driving_by}
use Rattle.net.proofs.Sum.{sum-bounded}
use Rattle.net.proofs.Bound.{weight_below-small, weight_behind-small, delay-fits}
use Rattle.net.proofs.Places.{is-stage, is-segment, is-repeater, kinds}
use Rattle.net.proofs.Order.{numbering, hangs-falls}
use Rattle.net.proofs.Positions.{delay-by-position, driving-moved, driven-small}
use Rattle.net.proofs.Questions.{box-iff, allowed-ranges, ordered, limited, checked-submodular}

-- An allowed sizing by position is one whose indices are in their ranges.
pub allowed-by : (d : Driving) (y : List ℕ) → Allowed (allowed_by d) y ↔ Boxed d.places d.lowest d.highest y
allowed-by d y = box-iff d.places d.lowest d.highest y

pub driving-lattice : (d : Driving) → Lattice (allowed_by d)
driving-lattice d = within-lattice d.places d.lowest d.highest _ (closed_none d.places)

through-small : (r q : ℕ) → r ≤ 100000 → q ≤ 27500000 → r * q ≤ 2750000000000
through-small r q h k = mul-le-mul h k

slope-small : (w r : ℕ) → w ≤ 32640 → r ≤ 200000 → w * r ≤ 6528000000
slope-small w r h k = mul-le-mul h k

module _ (net : Net) (o : Ordered net) (l : Limited net) where
  total-small : total_weight net ≤ 16320
  unfolding total_weight
  total-small = omega (arith, sum-bounded net.segments 255 net.weight l.weights, mul-le-mul_right 255 l.segments)

  -- by place: the weight of the sinks that it drives, its own weight, and at an index that it may have its delay, its load and its slope
  driven-weight : (p : ℕ) → p < places net → weight_driven net p ≤ 16575
  unfolding of_kind
  driven-weight =
      kinds net _ (λ s h. rw (is-stage net s h) (omega (arith, total-small)))
      (λ i h. let k = is-segment net i h in rw (k.0, k.1, k.2) (omega (arith, weight_below-small net o l i h)))
      (λ r h. let k = is-repeater net r in rw (k.0, k.1, k.2) (omega (arith, weight_behind-small net o l (net.site r) (o.sites r h))))

  weight-small : (p : ℕ) → p < places net → (by_place net).weight p ≤ 32640
  unfolding of_kind
  weight-small =
      kinds net _ (λ s h. rw (is-stage net s h) (omega (arith, total-small)))
      (λ i h. let k = is-segment net i h in rw (k.0, k.1, k.2) (omega (arith, weight_below-small net o l i h)))
      (λ r h. let k = is-repeater net r in rw (k.0, k.1, k.2) (omega (arith, weight_behind-small net o l (net.site r) (o.sites r h))))

  delay-small : (p : ℕ) → p < places net → (k d : ℕ) → k ≤ net.highest p → d ≤ 13700000 → delay_at (by_place net) p k d ≤ 2750000000000
  unfolding of_kind delay_at
  delay-small =
      kinds net (λ p. (k d : ℕ) → k ≤ net.highest p → d ≤ 13700000 → delay_at (by_place net) p k d ≤ 2750000000000)
      (λ s h k d m n. rw (is-stage net s h) (through-small _ _ (l.drivers s k h m) (omega (arith, l.outputs s k h m))))
      (λ i h k d m n. let e = is-segment net i h in rw (e.0, e.1, e.2) (through-small _ _ (l.resistances i k h m) (omega (arith, l.capacitances i k h m))))
      (λ r h k d m n.
      let e = is-repeater net r in
      let z = l.repeater_sizes r k h m in
      rw (e.0, e.1) (through-small _ _ z.0 (omega (arith, z.2))))

  load-small : (p : ℕ) → p < places net → (k d : ℕ) → k ≤ net.highest p → d ≤ 13700000 → load_at (by_place net) p k d ≤ 13800000
  unfolding of_kind load_at
  load-small =
      kinds net (λ p. (k d : ℕ) → k ≤ net.highest p → d ≤ 13700000 → load_at (by_place net) p k d ≤ 13800000)
      (λ s h k d m n. rw (is-stage net s h) (omega (arith, l.gates s k h m)))
      (λ i h k d m n. let e = is-segment net i h in rw (e.0, e.1, e.2) (omega (arith, l.capacitances i k h m)))
      (λ r h k d m n. let e = is-repeater net r in rw (e.0, e.1) (omega (arith, (l.repeater_sizes r k h m).1)))

  slope-most : (p : ℕ) → p < places net → (k : ℕ) → k ≤ net.highest p → slope (by_place net) p k ≤ 6528000000
  unfolding of_kind slope
  slope-most =
      kinds net (λ p. (k : ℕ) → k ≤ net.highest p → slope (by_place net) p k ≤ 6528000000)
      (λ s h k m. rw (is-stage net s h) (slope-small _ _ (omega (arith, total-small)) (omega (arith, l.drivers s k h m))))
      (λ i h k m. let e = is-segment net i h in rw (e.0, e.1, e.2) (slope-small _ _ (omega (arith, weight_below-small net o l i h)) (omega (arith, l.resistances i k h m))))
      (λ r h k m.
      let e = is-repeater net r in
      rw (e.0, e.1, e.2) (slope-small _ _ (omega (arith, weight_behind-small net o l (net.site r) (o.sites r h))) (omega (arith, (l.repeater_sizes r k h m).0))))

  -- a sizing by position is that of a sizing by place
  nu : Numbering (places net) (order net) (position net)
  nu = numbering net o.sites o.rising

  back_by_place : List ℕ → List ℕ
  back_by_place y = arranged (places net) (position net) y

  there_and_back : (y : List ℕ) → Allowed (allowed_by (driving net)) y → by_position net (back_by_place y) ≡ y
  unfolding back_by_place
  there_and_back y a = arranged-back (numbering-back nu) y ((allowed-by (driving net) y).0 a).long

  in-ranges : (y : List ℕ) → Allowed (allowed_by (driving net)) y → InRanges net (back_by_place y)
  unfolding back_by_place
  in-ranges y a = allowed-ranges net (back_by_place y) ((driving-moved net o).back y a)

  drives-small : (y : List ℕ) → Allowed (allowed_by (driving net)) y → (t : ℕ) → t < places net → driven_load (driving net) y t ≤ 13700000
  drives-small y a t h =
      subst (λ z. driven_load (driving net) z t ≤ 13700000) (there_and_back y a) (driven-small net o l (back_by_place y) (in-ranges y a) t h)

  delay-small-by : (y : List ℕ) → Allowed (allowed_by (driving net)) y → delay_by (driving net) y < 2 ^ 63
  delay-small-by y a =
      subst (λ z. delay_by (driving net) z < 2 ^ 63) (there_and_back y a)
      (subst (λ v. v < 2 ^ 63) (delay-by-position net o (back_by_place y)) (delay-fits net o l (back_by_place y) (in-ranges y a)))

module _ {c : Counts} {b : List ℕ} (k : Checked c b) where
  abbrev net : Net
  net = net_by c b

  -- the highest index of a place is one of a table
  index-small : (p : ℕ) → p < places net → net.highest p < 16
  index-small =
      kinds net (λ p. net.highest p < 16) (λ s h. omega (arith, k.sized s h, k.few_sizes))
      (λ i h. omega (arith, k.wired i h, k.few_widths (segment_layer c b i)))
      (λ r h. omega (arith, k.repeater_sized r h, k.few_sizes))

  inside : (t : ℕ) → t < places net → order net t < places net
  inside = (nu net (ordered k) (limited k)).inside

  pub placed : Placed (driving_by c b)
  placed = record { falls = hangs-falls net (ordered k).sites (ordered k).rising (ordered k).parents }

  pub in_limits : InLimits (driving_by c b)
  unfolding slope delay_at load_at
  in_limits =
      let o = ordered k in
      let l = limited k in
      record {
        few = omega (arith, k.few_stages, k.few_segments, k.few_repeaters);
        indices = λ t h. index-small (order net t) (inside t h);
        weights = λ t h. weight-small net o l (order net t) (inside t h);
        slopes = λ t z h m. slope-most net o l (order net t) (inside t h) z m;
        delays = λ t z d h m n. delay-small net o l (order net t) (inside t h) z d m n;
        shows = λ t z d h m n. load-small net o l (order net t) (inside t h) z d m n;
        drives = drives-small net o l;
        fits = delay-small-by net o l;
      }

  -- the weights of a place, by its number
  pub checked-driven : (p : ℕ) → p < places net → weight_driven net p ≤ 16575
  checked-driven = driven-weight net (ordered k) (limited k)

  pub checked-weight : (p : ℕ) → p < places net → (placed_by c b).weight p ≤ 32640
  checked-weight = weight-small net (ordered k) (limited k)

  pub driving-submodular : Submodular (allowed_by (driving_by c b)) (delay_by (driving_by c b))
  driving-submodular = moved-submodular (driving-moved net (ordered k)) (checked-submodular k)
