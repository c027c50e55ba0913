-- The Elmore delay of a sized net, sink by sink along the path from the source, and its load figure: the section 'Delay' of the specification.
-- What a segment adds and the delay of a sink are twice the published ones, so that half of a segment's own capacitance is a whole number; what
-- a stage or a repeater adds is doubled with the delay of a sink.
use Rattle.std.specs.Prelude.{Bool, cond, List, ℕ, zero, suc, ◌+◌, ◌*◌, ◌-◌, eqb}
use Rattle.lattice.specs.Lists.{at, some, sum}
use Rattle.net.specs.Net.{Net}

-- The branches at the node q, to the depth d: the sum of what each has, where `has i l` is what the branch of segment i has with l in its own branches.
unfoldable pub branches_to : ℕ → (ℕ → ℕ) → (ℕ → ℕ → ℕ) → ℕ → ℕ → ℕ
branches_to n parent has zero q = 0
branches_to n parent has (suc d) q = sum n (λ i. cond (eqb (parent i) q) (has i (branches_to n parent has d (suc i))) 0)

-- The sum of f over the segments on the way from the node q up to the source, at most d of them.
unfoldable pub climb : (ℕ → ℕ) → (ℕ → ℕ) → ℕ → ℕ → ℕ
climb parent f zero q = 0
climb parent f (suc d) zero = 0
climb parent f (suc d) (suc i) = f i + climb parent f d (parent i)

module _ (net : Net) where
  -- All that the segments in the branches at the node q own: a tree is no deeper than the number of its segments.
  abbrev pub branches : (ℕ → ℕ) → ℕ → ℕ
  branches own q = branches_to net.segments net.parent (λ i l. own i + l) net.segments q

  -- One branch: segment i and all below it.
  abbrev pub branch : (ℕ → ℕ) → ℕ → ℕ
  branch own i = own i + branches own (suc i)

  -- The sum of f over the path from the source to the far end of segment i.
  abbrev pub path : (ℕ → ℕ) → ℕ → ℕ
  path f i = climb net.parent f net.segments (suc i)

  -- The same without segment i: over the segments strictly above it.
  abbrev pub above : (ℕ → ℕ) → ℕ → ℕ
  above f i = climb net.parent f net.segments (net.parent i)

  -- Does a repeater sit at the far end of segment i?
  unfoldable pub repeated : ℕ → Bool
  repeated i = some net.repeaters (λ r. eqb (net.site r) i)

  -- What f has for the repeater at the far end of segment i; 0 where there is none.
  unfoldable pub at_repeater : (ℕ → ℕ) → ℕ → ℕ
  at_repeater f i = sum net.repeaters (λ r. cond (eqb (net.site r) i) (f r) 0)

-- Below, x is a sizing: an index for each place.
module _ (net : Net) (x : List ℕ) where
  -- A segment's resistance and capacitance at its width.
  abbrev pub resistance : ℕ → ℕ
  resistance i = net.wire_resistance i (at x (net.stages + i))

  abbrev pub capacitance : ℕ → ℕ
  capacitance i = net.wire_capacitance i (at x (net.stages + i))

  -- What a segment itself adds to a load: its capacitance and its sink.
  abbrev pub own_load : ℕ → ℕ
  own_load i = capacitance i + net.sink i

  -- The size of repeater r.
  abbrev pub repeater_size : ℕ → ℕ
  repeater_size r = at x (net.stages + net.segments + r)

  -- The load under segment i where its branches have the load l: its sink, which sits before the repeater, and the repeater's gate; where there is no
  -- repeater, the load of the branches.
  unfoldable pub under : ℕ → ℕ → ℕ
  under i l = net.sink i + cond (repeated net i) (at_repeater net (λ r. net.gate (repeater_size r)) i) l

  -- The load of the branches at the node q: of each branch its segment's capacitance and the load under it.
  abbrev pub branches_load : ℕ → ℕ
  branches_load q = branches_to net.segments net.parent (λ i l. capacitance i + under i l) net.segments q

  -- The load under segment i, without the segment itself.
  abbrev pub load_under : ℕ → ℕ
  load_under i = under i (branches_load (suc i))

  -- The load of a branch: its segment's capacitance and the load under it.
  abbrev pub branch_load : ℕ → ℕ
  branch_load i = capacitance i + load_under i

  -- What stage s drives: the gate of the next stage, or the load of the whole tree.
  unfoldable pub stage_load : ℕ → ℕ
  stage_load s = cond (eqb (suc s) net.stages) (branches_load 0) (net.gate (at x (suc s)))

  -- What stage s contributes to every sink.
  abbrev pub stage_delay : ℕ → ℕ
  stage_delay s = net.driver_resistance (at x s) * (net.output (at x s) + stage_load s)

  -- What all stages contribute to every sink.
  unfoldable pub stages_delay : ℕ
  stages_delay = sum net.stages stage_delay

  -- Twice what segment i contributes to every sink at or below its far end: resistance × (half its own capacitance + load under it).
  unfoldable pub segment_delay : ℕ → ℕ
  segment_delay i = resistance i * (capacitance i + 2 * load_under i)

  -- What repeater r contributes to each sink below it: resistance × (own output capacitance + load of the branches).
  abbrev pub repeater_delay : ℕ → ℕ
  repeater_delay r = net.driver_resistance (repeater_size r) * (net.output (repeater_size r) + branches_load (suc (net.site r)))

  -- Twice the delay of the sink at segment i's far end. A repeater at that end stands behind the sink, so it adds nothing.
  abbrev pub sink_delay : ℕ → ℕ
  sink_delay i = 2 * stages_delay + path net segment_delay i + 2 * above net (at_repeater net repeater_delay) i

  -- The scaled delay: twice the sum over sinks of weight × delay. A segment without a sink has weight 0.
  unfoldable pub delay : ℕ
  delay = sum net.segments (λ i. net.weight i * sink_delay i)

  -- The gates of stages 1 and up.
  unfoldable pub gates_load : ℕ
  gates_load = sum (net.stages - 1) (λ s. net.gate (at x (suc s)))

  -- The outputs of all stages, stage 0 included.
  unfoldable pub outputs_load : ℕ
  outputs_load = sum net.stages (λ s. net.output (at x s))

  -- The gates and outputs of the repeaters.
  unfoldable pub repeaters_load : ℕ
  repeaters_load = sum net.repeaters (λ r. net.gate (repeater_size r) + net.output (repeater_size r))

  -- The load figure, a term of the specification: wire capacitance + sinks + gates of stages 1 and up + outputs of all stages + gates and outputs
  -- of all repeaters, each once.
  unfoldable pub load_figure : ℕ
  load_figure = sum net.segments own_load + gates_load + outputs_load + repeaters_load
