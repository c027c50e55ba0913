-- The steps by which a part of the tree is counted up: what each asks and what it gives.
use Rattle.std.specs.Prelude.{◌≡◌, List, ℕ, ◌+◌, ◌*◌, ◌^◌, ◌<◌}
use Rattle.lattice.specs.Lists.{at}
use Rattle.net.specs.Net.{Net}
use Rattle.job.specs.declared.Wire.{Wire}
use Rattle.job.specs.WireAt.{WireAt}
use Rattle.parts.specs.declared.Segment.{Segment}
use Rattle.parts.specs.declared.Part.{Part}

-- s is segment i, at its width.
pub record Fields (net : Net) (x : List ℕ) (i : ℕ) (s : Segment) : Type 0 where
  pub weight : s.weight ≡ net.weight i
  pub sink : s.sink.0 ≡ net.sink i
  pub wire : WireAt net i (at x (net.stages + i)) s.wire

-- Twice what a wire's resistance charges, and twice what the segment contributes, where the load under the segment is l.
abbrev pub charge : Wire → ℕ → ℕ
charge w l = w.capacitance.0 + 2 * l

abbrev pub lag : Wire → ℕ → ℕ
lag w l = w.resistance.0 * charge w l

-- Both are below 2 ^ 63.
pub record RoomCharged (w : Wire) (l : ℕ) : Type 0 where
  pub charged : charge w l < 2 ^ 63
  pub lagged : lag w l < 2 ^ 63

-- The load under a segment at whose far end the part u hangs.
abbrev pub under : Segment → Part → ℕ
under s u = s.sink.0 + u.load.0

-- A segment with the part at its far end is below 2 ^ 63.
pub record RoomBehind (s : Segment) (u : Part) : Type 0 where
  pub weight : s.weight + u.weight < 2 ^ 63
  pub wire : RoomCharged s.wire (under s u)
  pub delay : (s.weight + u.weight) * lag s.wire (under s u) + u.delay.0 < 2 ^ 63

-- r is the segment with the part at its far end.
pub record Behind (s : Segment) (u r : Part) : Type 0 where
  pub weight : r.weight ≡ s.weight + u.weight
  pub load : r.load.0 ≡ s.wire.capacitance.0 + under s u
  pub delay : r.delay.0 ≡ (s.weight + u.weight) * lag s.wire (under s u) + u.delay.0

-- Two parts together are below 2 ^ 63.
pub record RoomJoined (a b : Part) : Type 0 where
  pub weight : a.weight + b.weight < 2 ^ 63
  pub load : a.load.0 + b.load.0 < 2 ^ 63
  pub delay : a.delay.0 + b.delay.0 < 2 ^ 63

-- r is the two parts together.
pub record Joined (a b r : Part) : Type 0 where
  pub weight : r.weight ≡ a.weight + b.weight
  pub load : r.load.0 ≡ a.load.0 + b.load.0
  pub delay : r.delay.0 ≡ a.delay.0 + b.delay.0
