-- The cheapest indices at a place, by its position, are the best: what a place costs changes with its index as the delay of the whole net does.
use mathlib.Core.Path.{◌≡◌, refl, sym, ap, ◌∙◌}
use mathlib.Core.Bool.{Bool, true, false}
use mathlib.Core.Logic.{◌↔◌}
use mathlib.Core.List.{List}
use Prim.Native.Nat.{ℕ, suc, ◌+◌, ◌-◌, ◌^◌, ◌≤◌, ◌<◌}
use native.Mathlib.Omega.{arith}
use borrow.Author.Tests.{le-ltb}
use lib.ListN.{set}
use lib.Seq.{get_or-set_same, set-get_or}
use Rattle.lattice.specs.Side.{Side, below, above}
use Rattle.lattice.specs.Lists.{at}
use Rattle.lattice.specs.Space.{Allowed, within}
use Rattle.lattice.specs.Cheapest.{Cheapest}
use Rattle.lattice.proofs.Boxes.{boxed-set}
use Rattle.lattice.proofs.Scan.{Scanned, cheapest-best}
use Rattle.net.specs.declared.Counts.{Counts}
use Rattle.net.specs.Job.{places_by, segment_layer}
use Rattle.net.specs.Net.{net_by}
use Rattle.net.specs.Checked.{Checked}
use Rattle.net.specs.Driving as driving
use Rattle.net.specs.Driving.{Driving, allowed_by, delay_at, load_at, driven_load, delay_by, cost, Placed, InLimits}
use Rattle.net.specs.Order.{order, placed_by, driving_by}
use Rattle.net.proofs.InOrder.{allowed-by, driving-lattice}
use Rattle.net.proofs.Held.{before_same}
use Rattle.net.proofs.OnePosition.{traded}
use Rattle.job.specs.Ranges.{driver_at}
use Rattle.job.proofs.Ranges.{wire-range}
use Rattle.place.proofs.Steps.{size-fits}
use Rattle.place.specs.Held.{UpstreamTo}
use Rattle.place.proofs.Upstream.{upstream-most}
use Rattle.refine.specs.declared.Ends.{Ends}
use Rattle.refine.specs.Settled.{end_from, Settled, EndsAt}

-- the highest index that a place may have is one of a table
pub index-few : {c : Counts} {b : List ℕ} → Checked c b → (p : ℕ) → p < places_by c → (net_by c b).highest p < 16
index-few {c} {b} checked p h = go (driver_at c p) refl
  where
    go : (d : Bool) → driver_at c p ≡ d → (net_by c b).highest p < 16
    go true e = omega (arith, (size-fits checked p ((net_by c b).highest p) e h (omega arith)).there, checked.few_sizes)
    go false e =
        let w = wire-range c p e in
        let q : c.stages + (p - c.stages) ≡ p = omega arith in
        omega (arith, rw q at (checked.wired (p - c.stages) (omega arith)), checked.few_widths (segment_layer c b (p - c.stages)))

-- the ends that a loop over all indices of a place has found
pub scanned-settled : (net : Driving) (w u p d : ℕ) (r : Ends) (k : ℕ) → Scanned (net.lowest p) (cost net w u p d) k r.lowest r.highest r.cost.0
    → r.cost.0 < 2 ^ 63 → k ≡ suc (net.highest p) → Settled net w u p d r
scanned-settled net w u p d r k i h e = record { costs = i.costs; fits = h; ends = λ s. go s }
  where
    go : (s : Side) → Cheapest s (net.lowest p) (suc (net.highest p)) (cost net w u p d) (end_from s r)
    go below = rw (← e) i.low
    go above = rw (← e) i.high

-- what is settled of the place at position t is settled of the position
pub settled-by-place : (c : Counts) (b : List ℕ) (w u t p d : ℕ) (r : Ends) → p ≡ order (net_by c b) t → Settled (placed_by c b) w u p d r → Settled (driving_by c b) w u t d r
unfolding delay_at load_at
settled-by-place c b w u t p d r e s = let z = rw e at s in record { costs = z.costs; fits = z.fits; ends = z.ends }

-- The position p of an allowed sizing x, where it has its weight, its resistance upstream and its load.
module _ (net : Driving) (o : Placed net) (l : InLimits net) (upstream x : List ℕ) (a : Allowed (allowed_by net) x)
    (p w d : ℕ) (few : p < net.places) (weighs : w ≡ net.weight p) (u : UpstreamTo net x x (suc p) upstream) (e : d ≡ driven_load net x p) where
  -- these are in the limits
  pub figures-small : (w ≤ 32640) × (at upstream p ≤ 496128000000) × (d ≤ 13700000)
  figures-small = (
    rw (weighs) (l.weights p few),
    omega (arith, upstream-most net o l x x a upstream (suc p) u p (omega arith) few, l.few),
    rw e (l.drives x a p few),
  )

  -- the delay changes with the index as the cost does
  cost-trades : (i j : ℕ) → delay_by net (set x p j) + cost net w (at upstream p) p d i ≡ delay_by net (set x p i) + cost net w (at upstream p) p d j
  cost-trades i j = rw (weighs, e) (traded net o.falls x ((allowed-by net x).0 a).long p few (at upstream) held i j)
    where
      -- no place is free
      held : driving.UpstreamTo net x (suc p) (at upstream)
      held = record { held = λ q h m. u.held q h m ∙ before_same _ _ (net.hangs_at q) (λ b f. rw (le-ltb (at x b) (at x b) (omega arith))) }

  -- the indices of the range are those that keep the sizing allowed
  range : (j : ℕ) → Allowed (allowed_by net) (set x p j) ↔ ((net.lowest p ≤ j) × (j < suc (net.highest p)))
  range j = (
    λ b. let y = (allowed-by net (set x p j)).0 b in let here = get_or-set_same x p j 0 (omega (arith, ((allowed-by net x).0 a).long)) in (omega (arith, here, y.low p few), omega (arith, here, y.high p few)),
    λ h. (allowed-by net (set x p j)).1 (boxed-set net.places _ _ x p j ((allowed-by net x).0 a) h.0 (omega (arith, h.1))),
  )

  -- so the ends that settling finds are those of the sizing
  pub settled-ends : (r : Ends) → Settled net w (at upstream p) p d r → EndsAt net x p r
  unfolding within
  settled-ends r i =
      record { ends = λ s. cheapest-best (driving-lattice net) (delay_by net) x a p few (net.lowest p) (suc (net.highest p)) range _ cost-trades s (end_from s r) (i.ends s) }

  -- and the delay of the sizing with the smallest end at the place is told by what it costs there
  pub settled-reaches : (r : Ends) → Settled net w (at upstream p) p d r
      → delay_by net (set x p r.lowest) + cost net w (at upstream p) p d (at x p) ≡ delay_by net x + r.cost.0
  settled-reaches r i =
      cost-trades (at x p) r.lowest ∙ ap (λ (y : List ℕ). delay_by net y + cost net w (at upstream p) p d r.lowest) (set-get_or x p 0)
      ∙ ap (λ (v : ℕ). delay_by net x + v) (sym i.costs)
