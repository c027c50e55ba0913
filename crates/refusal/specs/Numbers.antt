-- The number of each question, and the number that a call's result stands for.
use Rattle.std.specs.Prelude.{ℕ, Result, Ok, Err}
use Rattle.refusal.specs.declared.Refusal.{Refusal}
use Rattle.refusal.specs.declared.Refusal.TheVariants.{Length, Kinds, Counts, Numbers, UnnamedBytes, Values, Tables, StageRanges, Parents, SegmentFields, OpenEnds, SizingLength, Indices, Place, WeightRecords, Fractions, RepeaterSites, RepeaterRanges, Layers}

abbrev pub number_of : Refusal → ℕ
number_of Length = 1
number_of Kinds = 2
number_of Counts = 3
number_of Numbers = 4
number_of UnnamedBytes = 5
number_of Values = 6
number_of Tables = 7
number_of StageRanges = 8
number_of Parents = 9
number_of SegmentFields = 10
number_of OpenEnds = 11
number_of SizingLength = 15
number_of Indices = 16
number_of Place = 17
number_of WeightRecords = 20
number_of Fractions = 21
number_of RepeaterSites = 22
number_of RepeaterRanges = 23
number_of Layers = 24

-- 0 where a call is answered, and else the number of the question that refuses it.
abbrev pub refusal_number : {A : Type 0} → Result A Refusal → ℕ
refusal_number (Ok a) = 0
refusal_number (Err r) = number_of r
