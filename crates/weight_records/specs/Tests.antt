-- Tests of one weight record, which the questions ask of each. A run starts at the record `start`; k is a record's place in it, from 0.
use Rattle.std.specs.Prelude.{Bool, not, ◌&&◌, ◌||◌, List, ℕ, ◌+◌, leb, ltb, eqb}
use Rattle.net.specs.declared.Counts.{Counts}
use Rattle.net.specs.Job.{places_by}
use Rattle.job.specs.Runs.{byte_of, word_of}

module _ (b : List ℕ) where
  -- Is the number of a record's segment below that of the next?
  abbrev pub segments_rise : ℕ → ℕ → Bool
  segments_rise start k = ltb (byte_of b start 1 k) (byte_of b start 1 (k + 1))

  -- Are the unnamed bytes of a record zero?
  abbrev pub unnamed_zero : ℕ → ℕ → Bool
  unnamed_zero start k =
      let form : ℕ = byte_of b start 2 k in
      eqb (byte_of b start 3 k) 0
      && ((eqb form 1 || eqb (word_of b start 4 k) 0) && (eqb form 2 || (eqb (word_of b start 8 k) 0 && eqb (word_of b start 12 k) 0)))

  -- Is segment i one of n, which stand from the record `first` on, and has it a sink?
  abbrev pub sink_there : (first n i : ℕ) → Bool
  sink_there first n i = ltb i n && not (eqb (byte_of b first 3 i) 0)

-- Where among all records the weight records start.
abbrev pub first_weight : Counts → ℕ
first_weight c = c.widths + c.sizes + places_by c

-- Is the segment of record k of a run of weight records one of n, which stand from the record `first` of s on, has it a sink, is the form at most 2, and a
-- whole number at most 255?
abbrev pub weight_fits : (s : List ℕ) (first n : ℕ) (b : List ℕ) (start k : ℕ) → Bool
weight_fits s first n b start k =
    let form : ℕ = byte_of b start 2 k in
    sink_there s first n (byte_of b start 1 k) && (leb form 2 && (not (eqb form 1) || leb (word_of b start 4 k) 255))
