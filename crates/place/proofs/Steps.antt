-- The steps of one place: that each product fits, and that it is what the definitions say.
use mathlib.Core.Path.{◌≡◌, sym, subst, ◌∙◌}
use mathlib.Core.Logic.{◌⊎◌, inl, inr}
use mathlib.Core.Bool.{true, false}
use mathlib.Core.List.{List}
use Prim.Native.Nat.{ℕ, ◌+◌, ◌*◌, ◌-◌, ◌^◌, ◌≤◌, ◌<◌}
use native.Mathlib.Nat.{mul-le-mul}
use native.Mathlib.Omega.{arith}
use lib.ListN.{length}
use Rattle.lattice.specs.Lists.{at}
use Rattle.net.specs.declared.Counts.{Counts}
use Rattle.net.specs.Job.{places_by, of_kind, widths_of, size_resistance, size_gate, size_output, segment_layer}
use Rattle.net.specs.Net.{net_by}
use Rattle.net.specs.Checked.{Checked}
use Rattle.net.specs.Driving.{delay_at, load_at, cost, slope}
use Rattle.net.specs.Order.{order, placed_by, driving_by}
use Rattle.net.proofs.Places.{of-stage, of-segment, of-repeater}
use Rattle.job.specs.declared.Table.{Table}
use Rattle.job.specs.Ranges.{driver_at}
use Rattle.job.specs.Tables.{TableOf}
use Rattle.job.proofs.Ranges.{wire-range, driver-range}
use Rattle.positions.specs.Arranged.{PlacesInOrder}
use Rattle.net.proofs.Order.{numbering}
use Rattle.net.proofs.Questions.{ordered, wire-small}
use Rattle.net.proofs.InOrder.{in_limits, placed, allowed-by}
use Rattle.positions.specs.declared.Arranged.{Arranged}
use Rattle.positions.specs.declared.Bounds.{Bounds}
use Rattle.place.specs.declared.PlaceStep.{PlaceStep}
use Rattle.place.specs.Partial.{StepOf}
use Rattle.place.specs.declared.Spot.{Spot}
use Rattle.place.specs.ByCounts.{AllowedInOrder, BoundsOf, SpotOf, StepInLimits, Stepped, DriverStepped}

pub through-small : (r q : ℕ) → r ≤ 100000 → q ≤ 27500000 → r * q ≤ 2750000000000
through-small r q h k = mul-le-mul h k

pub weighted-small : (w d : ℕ) → w ≤ 32640 → d ≤ 2750000000000 → w * d ≤ 89760000000000000
weighted-small w d h k = mul-le-mul h k

-- a slope is small
pub slope-small : (w r : ℕ) → w ≤ 65280 → r ≤ 100000 → w * r ≤ 6528000000
slope-small w r h k = mul-le-mul h k

-- What a driver has: no sink, and the resistance, the output and the gate of its size.
module _ (c : Counts) (b : List ℕ) (p : ℕ) (e : driver_at c p ≡ true) where
  pub by_size : (v : ℕ) (g : ℕ → ℕ) → of_kind c.stages c.segments (λ s. v) g (λ r. v) p ≡ v
  by_size v g = go (driver-range c p e)
    where
      go : (p < c.stages) ⊎ (c.stages + c.segments ≤ p) → of_kind c.stages c.segments (λ s. v) g (λ r. v) p ≡ v
      go (inl h) = of-stage _ _ (λ s. v) g (λ r. v) p h
      go (inr h) = of-repeater _ _ (λ s. v) g (λ r. v) p h

  pub driver-sink : (placed_by c b).sink p ≡ 0
  driver-sink = by_size 0 (net_by c b).sink

  pub driver-load : (k l : ℕ) → load_at (placed_by c b) p k l ≡ size_gate c b k
  unfolding load_at
  driver-load k l = rw e

  pub driver-delay : (k l : ℕ) → delay_at (placed_by c b) p k l ≡ size_resistance c b k * (size_output c b k + l)
  unfolding delay_at
  driver-delay k l = rw (e, by_size (size_resistance c b k) (λ i. (net_by c b).wire_resistance i k), by_size (size_output c b k) (λ i. (net_by c b).wire_capacitance i k))

  pub driver-slope : (k : ℕ) → slope (placed_by c b) p k ≡ (placed_by c b).weight p * size_resistance c b k
  unfolding slope
  driver-slope k = rw (e, by_size (size_resistance c b k) (λ i. (net_by c b).wire_resistance i k))

  pub driver-step-of : (w u k l : ℕ) (r : PlaceStep) → DriverStepped c b w u k l r → StepOf (placed_by c b) w u p k l r
  driver-step-of w u k l r s =
      record {
        delay = s.delay ∙ rw (driver-delay k l, driver-load k l);
        load = s.load ∙ sym (driver-load k l);
        fits = s.fits;
      }

-- A size that a driver may have is one of the table, and its figures are small.
pub record SizeFits (c : Counts) (b : List ℕ) (k : ℕ) : Type 0 where
  pub there : k < c.sizes
  pub resistance : size_resistance c b k ≤ 100000
  pub gate : size_gate c b k ≤ 100000
  pub output : size_output c b k ≤ 100000

pub size-fits : {c : Counts} {b : List ℕ} → Checked c b → (p k : ℕ) → driver_at c p ≡ true → p < places_by c → k ≤ (net_by c b).highest p → SizeFits c b k
size-fits {c} {b} checked p k e l h =
    let there : k < c.sizes = omega (arith, most (driver-range c p e)) in
    let small = checked.drivers k there in
    record { there = there; resistance = small.0; gate = small.1; output = small.2 }
  where
    most : (p < c.stages) ⊎ (c.stages + c.segments ≤ p) → (net_by c b).highest p < c.sizes
    most (inl m) = checked.sized p m
    most (inr m) =
        let q : c.stages + c.segments + (p - (c.stages + c.segments)) ≡ p = omega arith in
        subst (λ z. (net_by c b).highest z < c.sizes) q (checked.repeater_sized (p - (c.stages + c.segments)) (omega arith))

-- What a wire has: its segment's sink, and the resistance and the capacitance of its width.
module _ (c : Counts) (b : List ℕ) (p : ℕ) (e : driver_at c p ≡ false) where
  pub by-segment : (f g h : ℕ → ℕ) → of_kind c.stages c.segments f g h p ≡ g (p - c.stages)
  by-segment f g h = let w = wire-range c p e in of-segment _ _ f g h p w.0 w.1

  pub wire-sink : (placed_by c b).sink p ≡ (net_by c b).sink (p - c.stages)
  wire-sink = by-segment (λ s. 0) (net_by c b).sink (λ r. 0)

  pub wire-load : (k l : ℕ) → load_at (placed_by c b) p k l ≡ (net_by c b).wire_capacitance (p - c.stages) k + l
  unfolding load_at
  wire-load k l = rw (e, by-segment (λ s. size_output c b k) (λ i. (net_by c b).wire_capacitance i k) (λ r. size_output c b k))

  pub wire-delay : (k l : ℕ) → delay_at (placed_by c b) p k l ≡ (net_by c b).wire_resistance (p - c.stages) k * ((net_by c b).wire_capacitance (p - c.stages) k + 2 * l)
  unfolding delay_at
  wire-delay k l =
      rw (
        e,
        by-segment (λ s. size_resistance c b k) (λ i. (net_by c b).wire_resistance i k) (λ r. size_resistance c b k),
        by-segment (λ s. size_output c b k) (λ i. (net_by c b).wire_capacitance i k) (λ r. size_output c b k),
      )

  pub wire-slope : (k : ℕ) → slope (placed_by c b) p k ≡ 2 * (placed_by c b).weight p * (net_by c b).wire_resistance (p - c.stages) k
  unfolding slope
  wire-slope k = rw (e, by-segment (λ s. size_resistance c b k) (λ i. (net_by c b).wire_resistance i k) (λ r. size_resistance c b k)) (omega arith)

  pub wire-step-of : (w u k l : ℕ) (r : PlaceStep) → r.load.0 ≡ (net_by c b).wire_capacitance (p - c.stages) k + l
      → r.delay.0 ≡ w * ((net_by c b).wire_resistance (p - c.stages) k * ((net_by c b).wire_capacitance (p - c.stages) k + 2 * l)) + u * ((net_by c b).wire_capacitance (p - c.stages) k + l)
      → r.delay.0 < 2 ^ 63 → StepOf (placed_by c b) w u p k l r
  wire-step-of w u k l r g d f =
      record {
        delay = d ∙ sym (rw (wire-delay k l, wire-load k l));
        load = g ∙ sym (wire-load k l);
        fits = f;
      }

-- A wire is a segment, a width that it may have is one of its layer, and its figures there are small.
pub record WidthFits (c : Counts) (b : List ℕ) (p k : ℕ) (t : Table) : Type 0 where
  pub first : c.stages ≤ p
  pub there : p - c.stages < c.segments
  pub table : TableOf c b (c.stages + (p - c.stages)) t
  pub width : k < widths_of c (segment_layer c b (p - c.stages))
  pub resistance : (net_by c b).wire_resistance (p - c.stages) k ≤ 100000
  pub capacitance : (net_by c b).wire_capacitance (p - c.stages) k ≤ 100000

pub width-fits : {c : Counts} {b : List ℕ} → Checked c b → (p k : ℕ) (t : Table) → driver_at c p ≡ false → k ≤ (net_by c b).highest p → TableOf c b p t → WidthFits c b p k t
width-fits {c} {b} checked p k t e h of =
    let w = wire-range c p e in
    let q : c.stages + (p - c.stages) ≡ p = omega arith in
    let there : p - c.stages < c.segments = omega arith in
    let most : (net_by c b).highest p < widths_of c (segment_layer c b (p - c.stages)) =
    subst (λ z. (net_by c b).highest z < widths_of c (segment_layer c b (p - c.stages))) q (checked.wired (p - c.stages) there) in
    let width : k < widths_of c (segment_layer c b (p - c.stages)) = omega arith in
    let small = wire-small checked (p - c.stages) k there width in
    record {
      first = w.0;
      there = there;
      table = subst (λ z. TableOf c b z t) (sym q) of;
      width = width;
      resistance = small.0;
      capacitance = small.1;
    }

-- What a position shows, by its place.
pub shown-same : {c : Counts} {b : List ℕ} → Checked c b → (t k l p : ℕ) → p ≡ order (net_by c b) t → load_at (placed_by c b) p k l ≡ load_at (driving_by c b) t k l
unfolding load_at
shown-same g t k l p e = rw e

pub shown_by : {c : Counts} {b : List ℕ} → Checked c b → (t k l : ℕ) → t < places_by c → k ≤ (driving_by c b).highest t → l ≤ 13700000 → load_at (placed_by c b) (order (net_by c b) t) k l ≤ 13800000
unfolding load_at
shown_by g t k l h m n = (in_limits g).shows t k l h m n

-- So with its slope, whether it is a driver, and what an index costs.
pub slope-same : (c : Counts) (b : List ℕ) (t k p : ℕ) → p ≡ order (net_by c b) t → slope (placed_by c b) p k ≡ slope (driving_by c b) t k
unfolding slope
slope-same c b t k p e = rw e

pub driver-same : (c : Counts) (b : List ℕ) (t p : ℕ) → p ≡ order (net_by c b) t → driver_at c p ≡ (driving_by c b).driver t
driver-same c b t p e = rw e

pub cost-same : (c : Counts) (b : List ℕ) (w u t l k p : ℕ) → p ≡ order (net_by c b) t → cost (placed_by c b) w u p l k ≡ cost (driving_by c b) w u t l k
unfolding delay_at load_at
cost-same c b w u t l k p e = rw e

pub step_same : (c : Counts) (b : List ℕ) (w u t l k p : ℕ) (r : PlaceStep) → p ≡ order (net_by c b) t → StepOf (placed_by c b) w u p k l r → StepOf (driving_by c b) w u t k l r
unfolding delay_at load_at
step_same c b w u t l k p r e s = let z = rw e at s in record { delay = z.delay; load = z.load; fits = z.fits }

-- The place at a position is one of the places.
pub place_at_lem : {c : Counts} {b orders : List ℕ} → Checked c b → PlacesInOrder c b orders → (t : ℕ) → t < places_by c → at orders t < places_by c
place_at_lem {c} {b} k o t h = rw (o.held t h) ((numbering (net_by c b) (ordered k).sites (ordered k).rising).inside t h)

pub place_few : (a : Arranged) (t : ℕ) → t < places_by a.job.counts → at a.order.now t < places_by a.job.counts
place_few a t h = place_at_lem a.job.checked a.in_order t h

-- Its node is one of those before it.
pub node_few : (a : Arranged) (t : ℕ) → t < places_by a.job.counts → at a.hangs.now t < 77
node_few a t h = omega (arith, a.nodes.held t h, (placed a.job.checked).falls t h, (in_limits a.job.checked).few)

-- So an allowed sizing has one of its indices there.
pub index-at : {c : Counts} {b orders : List ℕ} (y : List ℕ) → PlacesInOrder c b orders → AllowedInOrder c b y → (t : ℕ) → t < places_by c → at y t ≤ (net_by c b).highest (at orders t)
index-at {c} {b} y o a t h = rw (o.held t h) (((allowed-by (driving_by c b) y).0 a).high t h)

-- Two sizings that are bounds.
pub bounds-of : {c : Counts} {b : List ℕ} (bounds : Bounds) → AllowedInOrder c b bounds.lower.now → places_by c ≤ length bounds.upper.now → BoundsOf c b bounds
bounds-of {c} {b} bounds low up =
    let long = ((allowed-by (driving_by c b) bounds.lower.now).0 low).long in
    record { lower = low; lower_long = omega arith; upper_long = up }

-- A spot is its place with its weight and the resistance before it.
module _ {c : Counts} {b : List ℕ} {w u p : ℕ} {s : Spot} (of : SpotOf c b w u p s) where
  pub spot-limits : {k l : ℕ} → StepInLimits c b w u p k l → StepInLimits c b s.weight s.before.0 s.place k l
  spot-limits m = rw (of.weight, of.before, of.place) m

  pub spot-stepped : {k l : ℕ} {r : PlaceStep} → Stepped c b s.weight s.before.0 s.place k l r → Stepped c b w u p k l r
  spot-stepped m = rw (of.weight, of.before, of.place) at m
