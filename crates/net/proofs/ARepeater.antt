-- A small net with a repeater, by computation. One stage; from the source segments 0 and 2, behind segment 0 a repeater and segment 1. Every segment has
-- resistance 4, capacitance 2 and a sink: 5, 4 and 3, with the weights 1, 2 and 1. The stage has size 0: resistance 10, gate 3, output 1. The repeater
-- has size 1: resistance 5, gate 7, output 2.
--
-- Load behind the repeater 2 + 4 = 6. Load under the segments: 5 + 7 = 12, 4 and 3. Load of the tree (2 + 12) + (2 + 3) = 19.
-- Twice the delays: stage 2 × 10 × (1 + 19) = 400; segments 4 × (2 + 2 × 12) = 104, 4 × (2 + 2 × 4) = 40 and 4 × (2 + 2 × 3) = 32;
-- repeater 2 × 5 × (2 + 6) = 80. Sinks: 400 + 104 = 504, 400 + 104 + 80 + 40 = 624, 400 + 32 = 432.
-- Scaled delay 1 × 504 + 2 × 624 + 1 × 432 = 2184. Load figure 3 × 2 + (5 + 4 + 3) + 1 + (7 + 2) = 28.
use mathlib.Core.Path.{◌≡◌, refl}
use mathlib.Core.Bool.{cond}
use mathlib.Core.List.{List, [], ◌∷◌}
use Prim.Native.Nat.{ℕ, ◌+◌}
use Rattle.lattice.specs.Lists.{at, tabulate, some, sum}
use Rattle.lattice.specs.Numbering.{arranged}
use Rattle.net.specs.Job.{of_kind}
use Rattle.net.specs.Net.{Net}
use Rattle.net.specs.Delay.{branches_to, climb, repeated, at_repeater, under, load_under, stage_load, stages_delay, segment_delay, sink_delay, delay, gates_load, outputs_load, repeaters_load, load_figure}
use Rattle.net.specs.Segments.{weight_below, weight_behind, total_weight}
use Rattle.net.specs.Driving.{delay_at, load_at, behind, slope, before, driven_to, driven_load, delay_by}
use Rattle.net.specs.Order.{places_before, order, by_position, driving}

abbrev net : Net
net =
    record {
      stages = 1;
      segments = 3;
      repeaters = 1;
      lowest = λ p. 0;
      highest = at (0 ∷ 0 ∷ 0 ∷ 0 ∷ 1 ∷ []);
      driver_resistance = at (10 ∷ 5 ∷ []);
      gate = at (3 ∷ 7 ∷ []);
      output = at (1 ∷ 2 ∷ []);
      wire_resistance = λ i k. 4;
      wire_capacitance = λ i k. 2;
      parent = at (0 ∷ 1 ∷ 0 ∷ []);
      sink = at (5 ∷ 4 ∷ 3 ∷ []);
      weight = at (1 ∷ 2 ∷ 1 ∷ []);
      site = λ r. 0;
    }

-- by place: stage, segments, repeater
abbrev x : List ℕ
x = 0 ∷ 0 ∷ 0 ∷ 0 ∷ 1 ∷ []

-- the load under each segment
pub loads : tabulate 3 (load_under net x) ≡ 12 ∷ 4 ∷ 3 ∷ []
unfolding tabulate some sum branches_to repeated at_repeater under
loads = refl

-- the doubled delay of each sink
pub sinks : tabulate 3 (sink_delay net x) ≡ 504 ∷ 624 ∷ 432 ∷ []
unfolding tabulate some sum branches_to climb repeated at_repeater under stage_load stages_delay segment_delay
sinks = refl

pub figures : delay net x ∷ load_figure net x ∷ [] ≡ 2184 ∷ 28 ∷ []
unfolding some sum branches_to climb repeated at_repeater under stage_load stages_delay segment_delay delay gates_load outputs_load repeaters_load load_figure
figures = refl

-- by position: stage, segment 0, repeater, segments 1 and 2
pub places-in-order : tabulate 5 (order net) ≡ 0 ∷ 1 ∷ 4 ∷ 2 ∷ 3 ∷ []
unfolding tabulate sum of_kind places_before order
places-in-order = refl

-- what each position drives
pub driven : tabulate 5 (driven_load (driving net) (by_position net x)) ≡ 19 ∷ 12 ∷ 6 ∷ 4 ∷ 3 ∷ []
unfolding tabulate sum arranged of_kind places_before order load_at behind driven_to driven_load
driven = refl

pub by-position : delay_by (driving net) (by_position net x) ≡ 2184
unfolding tabulate sum arranged branches_to weight_below weight_behind total_weight of_kind places_before order delay_at load_at behind driven_to driven_load delay_by
by-position = refl

-- The weighted resistance upstream. A stage adds 2 × 4 × 10 = 80 by each unit of load, segment 0 adds 2 × 3 × 4 = 24, the repeater 2 × 2 × 5 = 20. So the
-- repeater has 24 + 80 = 104, but segment 1, which hangs at the repeater, 20 alone.
pub upstream : tabulate 5 (λ t. before (λ a. slope (driving net) a (at (by_position net x) a) + cond ((driving net).driver a) 0 (at (0 ∷ 80 ∷ 104 ∷ 20 ∷ 80 ∷ []) a)) ((driving net).hangs_at t))
    ≡ 0 ∷ 80 ∷ 104 ∷ 20 ∷ 80 ∷ []
unfolding tabulate sum arranged branches_to weight_below weight_behind total_weight of_kind places_before order slope before
upstream = refl
