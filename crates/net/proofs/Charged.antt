-- The load figure is what all drivers charge, each its own output and what it drives: each gate but that of stage 0, each wire and each sink is driven
-- by one stage or one repeater. The paper on buffers and wires counts the capacitance for power so, and the code adds it up in the delay's pass.
use mathlib.Core.Path.{◌≡◌, refl, sym, ap, ◌∙◌}
use mathlib.Core.Bool.{Bool, true, false, cond}
use mathlib.Core.List.{List}
use Prim.Native.Nat.{ℕ, zero, suc, ◌+◌, ◌*◌, ◌-◌, ◌≤◌, ◌<◌}
use native.Mathlib.Omega.{arith}
use borrow.Author.Tests.{eq-eqb, ne_eqb}
use lib.Dec.{eqb}
use Rattle.lattice.specs.Lists.{at, sum}
use Rattle.net.specs.Net.{Net}
use Rattle.net.specs.Delay.{repeated, at_repeater, capacitance, own_load, repeater_size, under, branch_load, branches_load, load_under, stage_load, gates_load, outputs_load, repeaters_load, load_figure}
use Rattle.net.specs.Segments.{stage_charge, repeater_charge}
use Rattle.net.specs.Checked.{Ordered}
use Rattle.net.proofs.Sum.{sum-suc, sum_same, sum-add, sum-zero, sum-sited}
use Rattle.net.proofs.Branches.{branches-sum}
use Rattle.net.proofs.Exchange.{repeaters-whole}
use Rattle.net.proofs.Order.{repeated-one, repeated-none}
use Rattle.net.proofs.Weights.{repeater-one}

module _ (net : Net) (x : List ℕ) where
  pub last-drives : (s : ℕ) → suc s ≡ net.stages → stage_load net x s ≡ branches_load net x 0
  unfolding stage_load
  last-drives s e = rw (eq-eqb _ _ e)

  pub other-drives : (s : ℕ) → (suc s ≡ net.stages → ⊥) → stage_load net x s ≡ net.gate (at x (suc s))
  unfolding stage_load
  other-drives s n = rw (ne_eqb _ _ n)

  -- the stages before the last drive the gates, the last drives the tree
  drive-all : (n : ℕ) → suc n ≡ net.stages → sum net.stages (stage_load net x) ≡ branches_load net x 0 + gates_load net x
  unfolding gates_load
  drive-all n e =
      let g : ℕ → ℕ = λ s. net.gate (at x (suc s)) in
      let p : net.stages - 1 ≡ n = omega arith in
      omega (
        arith,
        ap (λ (m : ℕ). sum m (stage_load net x)) (sym e),
        sum-suc n (stage_load net x),
        last-drives n e,
        sum_same n (stage_load net x) g (λ s h. other-drives s (λ f. omega arith)),
        ap (λ (m : ℕ). sum m g) p,
      )

  first-apart : (n : ℕ) (f : ℕ → ℕ) → sum (suc n) f ≡ f 0 + sum n (λ i. f (suc i))
  unfolding sum
  first-apart zero f = omega arith
  first-apart (suc n) f = omega (arith, first-apart n f)

  module _ (o : Ordered net) where
    -- the gate, and the load of the branches, of the repeater at the far end of segment i
    abbrev gate_at : ℕ → ℕ
    gate_at i = at_repeater net (λ r. net.gate (repeater_size net x r)) i

    abbrev behind_at : ℕ → ℕ
    behind_at i = at_repeater net (λ r. branches_load net x (suc (net.site r))) i

    no-repeater : (f : ℕ → ℕ) (i : ℕ) → repeated net i ≡ false → at_repeater net f i ≡ 0
    unfolding at_repeater
    no-repeater f i e = sum-zero net.repeaters _ (λ r h. rw (ne_eqb (net.site r) i (repeated-none net i e r h)))

    -- what stands under a segment is its sink and, in place of the branches that a repeater drives, its gate
    under-shown : (i : ℕ) → i < net.segments → load_under net x i + behind_at i ≡ net.sink i + (gate_at i + branches_load net x (suc i))
    unfolding under
    under-shown i h = go (repeated net i) refl
      where
        go : (b : Bool) → repeated net i ≡ b
            → net.sink i + cond b (gate_at i) (branches_load net x (suc i)) + behind_at i ≡ net.sink i + (gate_at i + branches_load net x (suc i))
        go false e = omega (arith, no-repeater (λ r. net.gate (repeater_size net x r)) i e, no-repeater (λ r. branches_load net x (suc (net.site r))) i e)
        go true e =
            let k = repeated-one net i e in
            let b = repeater-one net o (λ r. branches_load net x (suc (net.site r))) k.0 k.1 in
            let c : behind_at i ≡ branches_load net x (suc i) = rw k.2 at b in
            omega arith

    -- each segment hangs at one node
    all-nodes : branches_load net x 0 + sum net.segments (λ i. branches_load net x (suc i)) ≡ sum net.segments (branch_load net x)
    all-nodes =
        let n = net.segments in
        let at-node : ℕ → ℕ = λ q. sum n (λ i. cond (eqb (net.parent i) q) (branch_load net x i) 0) in
        let a = sum_same (suc n) (branches_load net x) (λ q. at-node q * 1)
        (λ q h. branches-sum net o.parents (λ i l. capacitance net x i + under net x i l) q (omega arith) ∙ omega arith) in
        let b = sum-sited (suc n) n net.parent (branch_load net x) (λ q. 1) (λ i h. omega (arith, o.parents i h)) in
        let c = sum_same n (λ i. branch_load net x i * 1) (branch_load net x) (λ i h. omega arith) in
        let f : ℕ → ℕ = branches_load net x in
        let d = first-apart n f in
        omega arith

    -- the tree: what the last stage and the repeaters drive in it
    tree-driven : branches_load net x 0 + sum net.repeaters (λ r. branches_load net x (suc (net.site r)))
        ≡ sum net.segments (own_load net x) + sum net.repeaters (λ r. net.gate (repeater_size net x r))
    tree-driven =
        let n = net.segments in
        let L : ℕ → ℕ = λ i. branches_load net x (suc i) in
        let a = all-nodes in
        let b = sum_same n (λ i. branch_load net x i + behind_at i) (λ i. own_load net x i + (gate_at i + L i)) (λ i h. omega (arith, under-shown i h)) in
        let c = sum-add n (branch_load net x) behind_at in
        let d = sum-add n (own_load net x) (λ i. gate_at i + L i) in
        let e = sum-add n gate_at L in
        let f = repeaters-whole net o.parents o.sites (λ r. net.gate (repeater_size net x r)) in
        let g = repeaters-whole net o.parents o.sites (λ r. branches_load net x (suc (net.site r))) in
        omega arith

    pub load-charged : 1 ≤ net.stages → sum net.stages (stage_charge net x) + sum net.repeaters (repeater_charge net x) ≡ load_figure net x
    unfolding outputs_load repeaters_load load_figure
    load-charged some =
        omega (
          arith,
          sum-add net.stages (λ s. net.output (at x s)) (stage_load net x),
          drive-all (net.stages - 1) (omega arith),
          tree-driven,
          sum-add net.repeaters (λ r. net.output (repeater_size net x r)) (λ r. branches_load net x (suc (net.site r))),
          sum-add net.repeaters (λ r. net.gate (repeater_size net x r)) (λ r. net.output (repeater_size net x r)),
        )
