-- What is counted up over a part of the tree, and of a whole sizing.
use Rattle.std.specs.Prelude.{◌≡◌, List, ℕ, suc, ◌+◌}
use Rattle.lattice.specs.Lists.{sum}
use Rattle.net.specs.Net.{Net}
use Rattle.net.specs.Delay.{branches_to, at_repeater, capacitance, own_load, under, delay, load_figure}
use Rattle.net.specs.Segments.{own_delay, own_repeater_delay, stage_charge, repeater_charge}
use Rattle.quantity.specs.declared.Capacitance.{Capacitance}
use Rattle.parts.specs.declared.Part.{Part}
use Rattle.parts.specs.declared.PartAndCharge.{PartAndCharge}
use Rattle.stages.specs.declared.DelayAndLoad.{DelayAndLoad}
use Rattle.stages.specs.Charges.{Has}

-- Parts of the tree: the branches at the node q, and the branch of segment i, where `has i l` is what it has with l in its own branches.
abbrev pub branches_of : Net → (ℕ → ℕ → ℕ) → ℕ → ℕ
branches_of net has q = branches_to net.segments net.parent has net.segments q

abbrev pub branch_of : Net → (ℕ → ℕ → ℕ) → ℕ → ℕ
branch_of net has i = has i (branches_of net has (suc i))

module _ (net : Net) (x : List ℕ) where
  -- What is counted up: the weight of the sinks, the load, and the scaled delay that arises inside.
  abbrev pub weight_with : ℕ → ℕ → ℕ
  weight_with i l = net.weight i + l

  abbrev pub load_with : ℕ → ℕ → ℕ
  load_with i l = capacitance net x i + under net x i l

  abbrev pub delay_with : ℕ → ℕ → ℕ
  delay_with i l = own_delay net x i + at_repeater net (own_repeater_delay net x) i + l

  -- r has them of a part of the tree: `branch_of`, `siblings` or `branches_of`, at i.
  pub record Tally (part : Net → (ℕ → ℕ → ℕ) → ℕ → ℕ) (i : ℕ) (r : Part) : Type 0 where
    pub weight : r.weight ≡ part net weight_with i
    pub load : r.load.0 ≡ part net load_with i
    pub delay : r.delay.0 ≡ part net delay_with i

  -- r is what hangs at the far end of segment i, behind the repeater if one sits there: with what the segment owns it is the segment's branch.
  pub record Hanging (i : ℕ) (r : Part) : Type 0 where
    pub weight : net.weight i + r.weight ≡ branch_of net weight_with i
    pub load : own_load net x i + r.load.0 ≡ branch_of net load_with i
    pub delay : own_delay net x i + r.delay.0 ≡ branch_of net delay_with i

  -- h has what hangs at the segment of repeater r, and what the repeater charges.
  pub record RepeatedOf (r : ℕ) (h : PartAndCharge) : Type 0 where
    pub part : Hanging (net.site r) h.part
    pub charge : h.charge.0 ≡ repeater_charge net x r

  -- r is what all repeaters charge.
  pub record RepeatersCharge (r : Capacitance) : Type 0 where
    pub all : r.0 ≡ sum net.repeaters (repeater_charge net x)

  -- t has the branches at the source, and what all repeaters charge.
  pub record WholeOf (t : PartAndCharge) : Type 0 where
    pub source : Tally branches_of 0 t.part
    pub charge : RepeatersCharge t.charge

-- r has the scaled delay of the sizing x, and what the stages charge.
abbrev pub BehindStages : Net → List ℕ → DelayAndLoad → Type 0
BehindStages net x = Has (delay net x) (sum net.stages (stage_charge net x))

-- r has the scaled delay and the load figure.
abbrev pub FiguresOf : Net → List ℕ → DelayAndLoad → Type 0
FiguresOf net x = Has (delay net x) (load_figure net x)
