-- The net of a job, free of bytes: what all definitions after this one speak of.
use Rattle.std.specs.Prelude.{List, ℕ, ◌+◌, ◌*◌}
use Rattle.net.specs.declared.Counts.{Counts}
use Rattle.net.specs.Job.{counts_of, of_kind, first_row, row_resistance, row_capacitance, size_resistance, size_gate, size_output, stage_lowest, stage_highest, segment_parent, segment_length, sink_capacitance, segment_lowest, segment_highest, segment_layer, repeater_segment, repeater_lowest, repeater_highest}
use Rattle.net.specs.Weights.{sink_weight}

-- An index is the size of a stage's or a repeater's driver, or the width of a segment's wire. A node is where branches hang: 0 is the source,
-- `suc i` the far end of segment i, so a parent byte is the node that its segment hangs at.
pub record Net : Type 0 where
  pub stages : ℕ
  pub segments : ℕ
  pub repeaters : ℕ
  -- by place: the lowest and the highest index allowed
  pub lowest : ℕ → ℕ
  pub highest : ℕ → ℕ
  -- by driver size
  pub driver_resistance : ℕ → ℕ
  pub gate : ℕ → ℕ
  pub output : ℕ → ℕ
  -- by segment and width, for the segment's whole length
  pub wire_resistance : ℕ → ℕ → ℕ
  pub wire_capacitance : ℕ → ℕ → ℕ
  -- by segment: the node that it hangs at, and the sink at its far end (capacitance and weight 0 where there is none)
  pub parent : ℕ → ℕ
  pub sink : ℕ → ℕ
  pub weight : ℕ → ℕ
  -- by repeater: the segment at whose far end it sits
  pub site : ℕ → ℕ

-- How many places a net has, called P: stages first, then segments, then repeaters, each by its number.
abbrev pub places : Net → ℕ
places net = net.stages + net.segments + net.repeaters

-- The net that a job describes, by the counts of its records: a segment's resistance at the width k is that of row k of its own layer times its
-- length, its capacitance likewise. A sink's weight is in 256ths.
abbrev pub net_by : Counts → List ℕ → Net
net_by c b =
    record {
      stages = c.stages;
      segments = c.segments;
      repeaters = c.repeaters;
      lowest = of_kind c.stages c.segments (stage_lowest c b) (segment_lowest c b) (repeater_lowest c b);
      highest = of_kind c.stages c.segments (stage_highest c b) (segment_highest c b) (repeater_highest c b);
      driver_resistance = size_resistance c b;
      gate = size_gate c b;
      output = size_output c b;
      wire_resistance = λ i k. row_resistance b (first_row c (segment_layer c b i) + k) * segment_length c b i;
      wire_capacitance = λ i k. row_capacitance b (first_row c (segment_layer c b i) + k) * segment_length c b i;
      parent = segment_parent c b;
      sink = sink_capacitance c b;
      weight = sink_weight c b;
      site = repeater_segment c b;
    }

-- The net of a job.
abbrev pub net_of : List ℕ → Net
net_of b = net_by (counts_of b) b
