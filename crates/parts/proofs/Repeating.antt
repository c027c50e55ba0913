-- The step at a repeater: that each sum and product is below 2 ^ 63, and that what hangs there is what the definitions say.
use mathlib.Core.Path.{◌≡◌, refl, ◌∙◌}
use mathlib.Core.Bool.{Bool, true, false}
use mathlib.Core.List.{List}
use Prim.Native.Nat.{ℕ, suc, ◌+◌, ◌*◌, ◌^◌, ◌≤◌, ◌<◌}
use native.Mathlib.Nat.{mul-le-mul}
use native.Mathlib.Omega.{arith}
use Rattle.net.specs.declared.Counts.{Counts}
use Rattle.net.specs.Net.{Net, net_by}
use Rattle.net.specs.Delay.{repeated, repeater_size, under}
use Rattle.net.specs.Segments.{weight_behind, own_repeater_delay, repeater_charge}
use Rattle.net.specs.Checked.{Ordered, Limited}
use Rattle.net.proofs.Order.{repeated-none}
use Rattle.net.proofs.Weights.{repeater-one}
use Rattle.net.proofs.Questions.{ordered, limited}
use Rattle.net.proofs.Bound.{branches-bounded, branches_load-small, repeater_delay-small}
use Rattle.parts.specs.declared.Part.{Part}
use Rattle.stages.specs.declared.DelayAndLoad.{DelayAndLoad}
use Rattle.stages.specs.Ready.{Ready}
use Rattle.parts.specs.Tally.{branches_of, Tally, Hanging}
use Rattle.stages.specs.Charges.{DriverOf}
use Rattle.parts.proofs.Tallies.{inside-small}

-- at a repeater's segment a repeater sits
repeated-there : (net : Net) (r : ℕ) → r < net.repeaters → repeated net (net.site r) ≡ true
repeated-there net r h = go (repeated net (net.site r)) refl
  where
    go : (b : Bool) → repeated net (net.site r) ≡ b → b ≡ true
    go true e = refl
    go false e = absurd (repeated-none net (net.site r) e r h refl)

module _ {c : Counts} {job x : List ℕ} (ready : Ready c job x) where
  abbrev net : Net
  net = net_by c job

  o : Ordered net
  o = ordered ready.checked

  l : Limited net
  l = limited ready.checked

  -- repeater r drives the branches u
  module _ (r : ℕ) (h : r < c.repeaters) (u : Part) (t : Tally net x branches_of (suc (net.site r)) u) where
    pub load-small : u.load.0 ≤ 13600000
    load-small = omega (arith, t.load, branches_load-small net o l x ready.in_ranges (suc (net.site r)) (o.sites r h))

    pub weight-small : u.weight ≤ 16320
    weight-small = omega (arith, t.weight, branches-bounded net o l 255 l.weights (suc (net.site r)) (o.sites r h))

    -- at the size k
    module _ (k : ℕ) (e : k ≡ repeater_size net x r) (one : DelayAndLoad) (f : DriverOf net k u.load.0 one) where
      pub charge-is : one.load.0 ≡ repeater_charge net x r
      charge-is = f.load ∙ rw (e, t.load)

      weighted-is : 2 * u.weight * one.delay.0 ≡ own_repeater_delay net x r
      unfolding weight_behind
      weighted-is = rw (f.delay, e, t.load, t.weight)

      -- as often as w says: twice the weight of all sinks is at most 33,150
      pub delay-room : (w : ℕ) → w ≤ 33150 → w * one.delay.0 + u.delay.0 < 2 ^ 63
      delay-room w m =
          let d : one.delay.0 ≤ 1370000000000 = rw (f.delay, e, t.load) (repeater_delay-small net o l x ready.in_ranges r h) in
          omega (arith, mul-le-mul m d, t.delay, inside-small ready (suc (net.site r)) (o.sites r h))

      pub repeated-hanging : (q : Part) → q.weight ≡ u.weight → q.load.0 ≡ net.gate k → q.delay.0 ≡ 2 * u.weight * one.delay.0 + u.delay.0
          → Hanging net x (net.site r) q
      unfolding under
      repeated-hanging q i j n =
          record {
            weight = omega (arith, i, t.weight);
            load = rw (repeated-there net r h, repeater-one net o (λ z. net.gate (repeater_size net x z)) r h) (omega (arith, rw e at j));
            delay = omega (arith, n, weighted-is, t.delay, repeater-one net o (own_repeater_delay net x) r h);
          }
