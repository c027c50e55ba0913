-- What the contracts of inner functions ask: the facts that a job's passed questions give. `proofs/Questions` shows that every job that passes
-- questions 1 to 11 and 20 to 24 has them; no public operation asks them of its caller.
use Rattle.std.specs.Prelude.{◌≡◌, List, ℕ, suc, ◌+◌, ◌*◌, ◌≤◌, ◌<◌, length}
use Rattle.lattice.specs.Lists.{at}
use Rattle.lattice.specs.Space.{Falls, Rises, Allowed}
use Rattle.net.specs.declared.Counts.{Counts}
use Rattle.net.specs.Job.{counts_of, weight_records, places_by, widths_of, first_row, row_resistance, row_capacitance, size_resistance, size_gate, size_output, segment_sink, segment_length, segment_layer, weight_at, weight_segment, weight_form, weight_whole}
use Rattle.net.specs.Net.{Net, places, net_by}
use Rattle.net.specs.Sizings.{allowed}

-- The records that are counted are there, and the widths of layer 0 are among the widths.
pub record Held (c : Counts) (b : List ℕ) : Type 0 where
  pub all : 16 * (c.widths + c.sizes + c.stages + c.segments + c.repeaters) ≤ length b
  pub layers : c.layer0 ≤ c.widths

-- A job has n weight records, and they are there.
pub record WeightsHeld (c : Counts) (b : List ℕ) (n : ℕ) : Type 0 where
  pub counted : n ≡ weight_records b
  pub there : weight_at c n ≤ length b

-- What question 20 asks of weight record w.
pub record WeightFits (c : Counts) (b : List ℕ) (w : ℕ) : Type 0 where
  pub segment : weight_segment c b w < c.segments
  pub sink : segment_sink c b (weight_segment c b w) ≡ 0 → ⊥
  pub form : weight_form c b w ≤ 2
  pub whole : weight_form c b w ≡ 1 → weight_whole c b w ≤ 255

-- What questions 1 to 10, 20, 22 and 23 give, with the counts of the job's records.
pub record Checked (c : Counts) (b : List ℕ) : Type 0 where
  -- 1, 2 and 3
  pub counted : c ≡ counts_of b
  pub held : Held c b
  pub few_widths : (l : ℕ) → widths_of c l ≤ 8
  pub few_sizes : c.sizes ≤ 16
  pub some_stage : 1 ≤ c.stages
  pub few_stages : c.stages ≤ 4
  pub few_segments : c.segments ≤ 64
  pub few_repeaters : c.repeaters ≤ 8
  -- 6
  pub rows : (k : ℕ) → k < c.widths → (row_resistance b k ≤ 100) × (row_capacitance b k ≤ 100)
  pub drivers : (k : ℕ) → k < c.sizes → (size_resistance c b k ≤ 100000) × (size_gate c b k ≤ 100000) × (size_output c b k ≤ 100000)
  -- 7
  pub rows_order : (l k : ℕ) → suc k < widths_of c l
      → (row_resistance b (first_row c l + suc k) < row_resistance b (first_row c l + k))
      × (row_capacitance b (first_row c l + k) < row_capacitance b (first_row c l + suc k))
  pub drivers_order : (k : ℕ) → suc k < c.sizes → (size_resistance c b (suc k) < size_resistance c b k) × (size_gate c b k < size_gate c b (suc k))
  -- 8, 10 and 23: each range is not empty and of its table
  pub ranges : (p : ℕ) → p < places_by c → (net_by c b).lowest p ≤ (net_by c b).highest p
  pub sized : (s : ℕ) → s < c.stages → (net_by c b).highest s < c.sizes
  pub wired : (i : ℕ) → i < c.segments → (net_by c b).highest (c.stages + i) < widths_of c (segment_layer c b i)
  pub repeater_sized : (r : ℕ) → r < c.repeaters → (net_by c b).highest (c.stages + c.segments + r) < c.sizes
  -- 9
  pub parents : (i : ℕ) → i < c.segments → (net_by c b).parent i ≤ i
  -- 10
  pub lengths : (i : ℕ) → i < c.segments → segment_length c b i ≤ 1000
  pub sinks : (i : ℕ) → i < c.segments → (net_by c b).sink i ≤ 100000
  -- 10 and 20
  pub weights : (i : ℕ) → i < c.segments → (net_by c b).weight i ≤ 255
  -- 22
  pub sites : (r : ℕ) → r < c.repeaters → (net_by c b).site r < c.segments
  pub branched : (r : ℕ) → r < c.repeaters → ∥ ((j : ℕ) × (j < c.segments) × ((net_by c b).parent j ≡ suc ((net_by c b).site r))) ∥₁
  pub rising : (r : ℕ) → suc r < c.repeaters → (net_by c b).site r < (net_by c b).site (suc r)

-- t is a table of the weights of the segments' sinks, which a job's check fills.
pub record SinkWeights (c : Counts) (b : List ℕ) (t : List ℕ) : Type 0 where
  pub long : length t ≡ 64
  pub weighs : (i : ℕ) → i < c.segments → at t i ≡ (net_by c b).weight i

-- x is an allowed sizing of the job's net.
abbrev pub AllowedBy : Counts → List ℕ → List ℕ → Type 0
AllowedBy c b x = Allowed (allowed (net_by c b)) x

-- x has an index for each place, and no more.
abbrev pub ForPlaces : Counts → List ℕ → Type 0
ForPlaces c x = length x ≡ places_by c

-- A sizing, with what may stand behind it, has at each place an index in the place's range.
pub record InRanges (net : Net) (x : List ℕ) : Type 0 where
  pub long : places net ≤ length x
  pub low : (p : ℕ) → p < places net → net.lowest p ≤ at x p
  pub high : (p : ℕ) → p < places net → at x p ≤ net.highest p

-- Segments are numbered after what they hang from, repeaters by their segments, and over each place's range resistance falls and gate and wire
-- capacitance rise. Of output capacitance no order is asked.
pub record Ordered (net : Net) : Type 0 where
  pub parents : (i : ℕ) → i < net.segments → net.parent i ≤ i
  pub drivers : (s : ℕ) → s < net.stages → Falls (net.lowest s) (net.highest s) net.driver_resistance
  pub gates : (s : ℕ) → s < net.stages → Rises (net.lowest s) (net.highest s) net.gate
  pub resistances : (i : ℕ) → i < net.segments → Falls (net.lowest (net.stages + i)) (net.highest (net.stages + i)) (net.wire_resistance i)
  pub capacitances : (i : ℕ) → i < net.segments → Rises (net.lowest (net.stages + i)) (net.highest (net.stages + i)) (net.wire_capacitance i)
  pub sites : (r : ℕ) → r < net.repeaters → net.site r < net.segments
  pub rising : (r s : ℕ) → r < s → s < net.repeaters → net.site r < net.site s
  pub repeater_drivers : (r : ℕ) → r < net.repeaters
      → Falls (net.lowest (net.stages + net.segments + r)) (net.highest (net.stages + net.segments + r)) net.driver_resistance
  pub repeater_gates : (r : ℕ) → r < net.repeaters
      → Rises (net.lowest (net.stages + net.segments + r)) (net.highest (net.stages + net.segments + r)) net.gate

-- The limits of the specification: on the counts, on what a segment has at each of its widths, and on what a stage or a repeater has at each of its
-- sizes.
pub record Limited (net : Net) : Type 0 where
  pub stages : net.stages ≤ 4
  pub segments : net.segments ≤ 64
  pub repeaters : net.repeaters ≤ 8
  pub weights : (i : ℕ) → i < net.segments → net.weight i ≤ 255
  pub sinks : (i : ℕ) → i < net.segments → net.sink i ≤ 100000
  pub resistances : (i k : ℕ) → i < net.segments → k ≤ net.highest (net.stages + i) → net.wire_resistance i k ≤ 100000
  pub capacitances : (i k : ℕ) → i < net.segments → k ≤ net.highest (net.stages + i) → net.wire_capacitance i k ≤ 100000
  pub drivers : (s k : ℕ) → s < net.stages → k ≤ net.highest s → net.driver_resistance k ≤ 100000
  pub gates : (s k : ℕ) → s < net.stages → k ≤ net.highest s → net.gate k ≤ 100000
  pub outputs : (s k : ℕ) → s < net.stages → k ≤ net.highest s → net.output k ≤ 100000
  pub repeater_sizes : (r k : ℕ) → r < net.repeaters → k ≤ net.highest (net.stages + net.segments + r)
      → (net.driver_resistance k ≤ 100000) × (net.gate k ≤ 100000) × (net.output k ≤ 100000)
