-- At the limits of the specification every sum that the delay is made of stays small, and the delay stays below 2 ^ 63. Assumes nothing.
use mathlib.Core.Path.{◌≡◌, refl}
use mathlib.Core.Bool.{Bool, true, false, cond}
use mathlib.Core.List.{List}
use Prim.Native.Nat.{ℕ, suc, ◌+◌, ◌*◌, ◌-◌, ◌^◌, ◌≤◌, ◌<◌}
use native.Mathlib.Nat.{mul-le-mul, mul-le-mul_right}
use native.Mathlib.Omega.{arith}
use borrow.Author.Tests.{eqb-false}
use lib.Dec.{eqb}
use Rattle.lattice.specs.Lists.{at, sum}
use Rattle.net.specs.Net.{Net}
use Rattle.net.specs.Delay.{branches_to, branches, repeated, at_repeater, capacitance, own_load, repeater_size, under, branches_load, load_under, segment_delay, repeater_delay, stage_load, stage_delay, stages_delay, delay}
use Rattle.net.specs.Segments.{weight_below, weight_behind, own_delay, own_repeater_delay, stage_charge, repeater_charge}
use Rattle.net.specs.Checked.{Ordered, Limited, InRanges}
use Rattle.net.proofs.Sum.{sum-add, sum-part, sum-bounded}
use Rattle.net.proofs.Forest.{forest-from, forest-part}
use Rattle.net.proofs.Branches.{branches-are}
use Rattle.net.proofs.Exchange.{repeaters-whole, inside-whole, delay-inside}

module _ (net : Net) (o : Ordered net) (l : Limited net) where
  -- the branches at a node have at most what all segments own
  pub branches-most : (has : ℕ → ℕ → ℕ) (own : ℕ → ℕ) → ((i m : ℕ) → i < net.segments → has i m ≤ own i + m) → (q : ℕ) → q ≤ net.segments
      → branches_to net.segments net.parent has net.segments q ≤ sum net.segments own
  branches-most has own h q k =
      rw (branches-are net o.parents has q k, forest-from net.parent net.segments o.parents has (net.segments - q) q (omega arith))
      (forest-part net.parent net.segments o.parents own has h (net.segments - q) q q (omega arith) (omega arith))

  -- what each segment owns is at most b
  pub branches-bounded : (b : ℕ) {own : ℕ → ℕ} → ((i : ℕ) → i < net.segments → own i ≤ b) → (q : ℕ) → q ≤ net.segments → branches net own q ≤ 64 * b
  branches-bounded b {own} h q k =
      omega (
        arith,
        branches-most (λ i m. own i + m) own (λ i m n. omega arith) q k,
        sum-bounded net.segments b own h,
        mul-le-mul_right b l.segments,
      )

  -- eight terms of at most b
  eight : (b : ℕ) (f : ℕ → ℕ) → ((r : ℕ) → r < net.repeaters → f r ≤ b) → sum net.repeaters f ≤ 8 * b
  eight b f h = omega (arith, sum-bounded net.repeaters b f h, mul-le-mul_right b l.repeaters)

  -- what each stage has is at most b
  pub stages-bounded : (b : ℕ) {f : ℕ → ℕ} → ((s : ℕ) → s < net.stages → f s ≤ b) → (s : ℕ) → s ≤ net.stages → sum s f ≤ 4 * b
  stages-bounded b {f} h s k =
      let m : s ≤ 4 = omega (arith, l.stages) in omega (arith, sum-bounded s b f (λ r j. h r (omega arith)), mul-le-mul_right b m)

  pub weight_below-small : (i : ℕ) → i < net.segments → weight_below net i ≤ 16575
  unfolding weight_below
  weight_below-small i h = omega (arith, l.weights i h, branches-bounded 255 l.weights (suc i) (omega arith))

  pub weight_behind-small : (i : ℕ) → i < net.segments → weight_behind net i ≤ 16320
  unfolding weight_behind
  weight_behind-small i h = branches-bounded 255 l.weights (suc i) h

  module _ (x : List ℕ) (a : InRanges net x) where
    pub own_load-small : (i : ℕ) → i < net.segments → own_load net x i ≤ 200000
    own_load-small i h = omega (arith, l.sinks i h, l.capacitances i (at x (net.stages + i)) h (a.high (net.stages + i) (omega arith)))

    -- the resistance, the gate and the output of a repeater
    repeater-small : (r : ℕ) → r < net.repeaters
        → (net.driver_resistance (repeater_size net x r) ≤ 100000) × (net.gate (repeater_size net x r) ≤ 100000) × (net.output (repeater_size net x r) ≤ 100000)
    repeater-small r h = l.repeater_sizes r (repeater_size net x r) h (a.high (net.stages + net.segments + r) (omega arith))

    -- the gate of the repeater at the far end of segment i
    abbrev gate_at : ℕ → ℕ
    gate_at i = at_repeater net (λ r. net.gate (repeater_size net x r)) i

    -- all of them together
    all_gates-small : sum net.segments gate_at ≤ 800000
    all_gates-small = rw (repeaters-whole net o.parents o.sites (λ r. net.gate (repeater_size net x r))) (eight 100000 _ (λ r h. (repeater-small r h).1))

    under-most : (i m : ℕ) → under net x i m ≤ net.sink i + gate_at i + m
    unfolding under
    under-most i m = go (repeated net i)
      where
        go : (b : Bool) → net.sink i + cond b (gate_at i) m ≤ net.sink i + gate_at i + m
        go true = omega arith
        go false = omega arith

    pub branches_load-small : (q : ℕ) → q ≤ net.segments → branches_load net x q ≤ 13600000
    branches_load-small q h =
        omega (
          arith,
          branches-most (λ i m. capacitance net x i + under net x i m) (λ i. own_load net x i + gate_at i) (λ i m k. omega (arith, under-most i m)) q h,
          sum-add net.segments (own_load net x) gate_at,
          sum-bounded net.segments 200000 (own_load net x) own_load-small,
          mul-le-mul_right 200000 l.segments,
          all_gates-small,
        )

    pub load_under-small : (i : ℕ) → i < net.segments → load_under net x i ≤ 13700000
    unfolding under
    load_under-small i h = go (repeated net i)
      where
        go : (b : Bool) → net.sink i + cond b (gate_at i) (branches_load net x (suc i)) ≤ 13700000
        go true = omega (arith, l.sinks i h, sum-part net.segments gate_at i h, all_gates-small)
        go false = omega (arith, l.sinks i h, branches_load-small (suc i) h)

    -- what a segment's resistance charges
    pub charged-small : (i : ℕ) → i < net.segments → capacitance net x i + 2 * load_under net x i ≤ 27500000
    charged-small i h = omega (arith, l.capacitances i (at x (net.stages + i)) h (a.high (net.stages + i) (omega arith)), load_under-small i h)

    pub segment_delay-small : (i : ℕ) → i < net.segments → segment_delay net x i ≤ 2750000000000
    unfolding segment_delay
    segment_delay-small i h = mul-le-mul (l.resistances i (at x (net.stages + i)) h (a.high (net.stages + i) (omega arith))) (charged-small i h)

    pub own_delay-small : (i : ℕ) → i < net.segments → own_delay net x i ≤ 45581250000000000
    own_delay-small i h = mul-le-mul (weight_below-small i h) (segment_delay-small i h)

    -- what one repeater charges, and what it adds
    pub repeater_charge-small : (r : ℕ) → r < net.repeaters → repeater_charge net x r ≤ 13700000
    repeater_charge-small r h = omega (arith, (repeater-small r h).2, branches_load-small (suc (net.site r)) (o.sites r h))

    pub repeater_delay-small : (r : ℕ) → r < net.repeaters → repeater_delay net x r ≤ 1370000000000
    repeater_delay-small r h = mul-le-mul (repeater-small r h).0 (repeater_charge-small r h)

    pub own_repeater_delay-small : (r : ℕ) → r < net.repeaters → own_repeater_delay net x r ≤ 44716800000000000
    own_repeater_delay-small r h =
        let w : 2 * weight_behind net (net.site r) ≤ 32640 = omega (arith, weight_behind-small (net.site r) (o.sites r h)) in
        mul-le-mul w (repeater_delay-small r h)

    pub stage_load-small : (s : ℕ) → s < net.stages → stage_load net x s ≤ 13600000
    unfolding stage_load
    stage_load-small s h = go (eqb (suc s) net.stages) refl
      where
        go : (b : Bool) → eqb (suc s) net.stages ≡ b → cond b (branches_load net x 0) (net.gate (at x (suc s))) ≤ 13600000
        go true e = branches_load-small 0 (omega arith)
        go false e =
            let k : suc s < net.stages = omega (arith, eqb-false (suc s) net.stages e) in
            omega (arith, l.gates (suc s) (at x (suc s)) k (a.high (suc s) (omega arith)))

    -- what one stage charges, and what it adds
    pub stage_charge-small : (s : ℕ) → s < net.stages → stage_charge net x s ≤ 13700000
    stage_charge-small s h = omega (arith, l.outputs s (at x s) h (a.high s (omega arith)), stage_load-small s h)

    pub stage_delay-small : (s : ℕ) → s < net.stages → stage_delay net x s ≤ 1370000000000
    stage_delay-small s h = mul-le-mul (l.drivers s (at x s) h (a.high s (omega arith))) (stage_charge-small s h)

    pub stages_delay-small : stages_delay net x ≤ 5480000000000
    unfolding stages_delay
    stages_delay-small = stages-bounded 1370000000000 stage_delay-small net.stages (omega arith)

    -- what the stages add, weighted by all the sinks
    pub driven-small : branches net net.weight 0 * (2 * stages_delay net x) ≤ 178867200000000000
    driven-small =
        let t : 2 * stages_delay net x ≤ 10960000000000 = omega (arith, stages_delay-small) in
        mul-le-mul (branches-bounded 255 l.weights 0 (omega arith)) t

    -- segments 64 × 45,581,250,000,000,000 + repeaters 8 × 44,716,800,000,000,000 + stages: 3.454 × 10 ^ 18
    pub delay-fits : delay net x < 2 ^ 63
    delay-fits =
        rw (delay-inside net o.parents o.sites x)
        (omega (
          arith,
          driven-small,
          inside-whole net o.parents o.sites x,
          sum-bounded net.segments 45581250000000000 (own_delay net x) own_delay-small,
          mul-le-mul_right 45581250000000000 l.segments,
          eight 44716800000000000 (own_repeater_delay net x) own_repeater_delay-small,
        ))
