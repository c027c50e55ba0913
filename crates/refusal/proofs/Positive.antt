-- Every question has a number above 0, so no refusal is taken for an answer.
use Rattle.std.proofs.Common.{◌≤◌, arith}
use Rattle.refusal.specs.declared.Refusal.{Refusal}
use Rattle.refusal.specs.declared.Refusal.TheVariants.{Length, Kinds, Counts, Numbers, UnnamedBytes, Values, Tables, StageRanges, Parents, SegmentFields, OpenEnds, SizingLength, Indices, Place, WeightRecords, Fractions, RepeaterSites, RepeaterRanges, Layers}
use Rattle.refusal.specs.Numbers.{number_of}

pub number-positive : (r : Refusal) → 1 ≤ number_of r
number-positive Length = omega arith
number-positive Kinds = omega arith
number-positive Counts = omega arith
number-positive Numbers = omega arith
number-positive UnnamedBytes = omega arith
number-positive Values = omega arith
number-positive Tables = omega arith
number-positive StageRanges = omega arith
number-positive Parents = omega arith
number-positive SegmentFields = omega arith
number-positive OpenEnds = omega arith
number-positive SizingLength = omega arith
number-positive Indices = omega arith
number-positive Place = omega arith
number-positive WeightRecords = omega arith
number-positive Fractions = omega arith
number-positive RepeaterSites = omega arith
number-positive RepeaterRanges = omega arith
number-positive Layers = omega arith
