-- Tests of one segment, and of the segment of one repeater, which the questions ask of each. A run starts at the record `start`; k is a record's place in
-- it, from 0.
use Rattle.std.specs.Prelude.{◌≡◌, Bool, cond, not, ◌&&◌, ◌||◌, List, ℕ, ◌+◌, ◌<◌, leb, ltb, eqb, length, get_or, Result}
use Rattle.lattice.specs.Lists.{at, every}
use Rattle.net.specs.declared.Counts.{Counts}
use Rattle.net.specs.Job.{widths_of}
use Rattle.job.specs.Runs.{byte_of, word_of}
use Rattle.refusal.specs.declared.Refusal.{Refusal}
use Rattle.refusal.specs.Numbers.{refusal_number}

-- Is segment i one of n, and has it, by the first segment at each node, branches?
abbrev pub branched : List ℕ → ℕ → ℕ → Bool
branched first n i = ltb i n && ltb (get_or first (i + 1) 0) n

module _ (b : List ℕ) where
  -- Are the fields of a segment in range, capacitance and weight 0 where there is no sink, and lowest ≤ highest < count of widths of its layer?
  abbrev pub segment_fits : Counts → ℕ → ℕ → Bool
  segment_fits c start k =
      let sink : ℕ = byte_of b start 3 k in
      let capacitance : ℕ = word_of b start 8 k in
      leb sink 1 && (leb 1 (word_of b start 4 k) && leb (word_of b start 4 k) 1000 && leb capacitance 100000)
      && ((not (eqb sink 0) || (eqb capacitance 0 && eqb (byte_of b start 12 k) 0))
      && (leb (byte_of b start 13 k) (byte_of b start 14 k) && ltb (byte_of b start 14 k) (widths_of c (byte_of b start 15 k))))

  -- Has a segment a sink, or, by the first segment at each node, one of n segments at its far end?
  abbrev pub sink_or_branch : List ℕ → ℕ → ℕ → ℕ → Bool
  sink_or_branch first start n k = not (eqb (byte_of b start 3 k) 0) || ltb (get_or first (k + 1) 0) n

  -- Is the first of these passed by each of n segments, and has each a sink or branches?
  abbrev pub all_fit : Counts → ℕ → ℕ → Bool
  all_fit c start n = every n (segment_fits c start)

  abbrev pub all_end : List ℕ → ℕ → ℕ → Bool
  all_end first start n = every n (sink_or_branch first start n)

  -- The number of the first of the two that fails, as question 10 or 11, or 0.
  abbrev pub segments_number : Counts → List ℕ → ℕ → ℕ → ℕ
  segments_number c first start n = cond (all_fit c start n) (cond (all_end first start n) 0 11) 10

  -- t has the weight byte of each of the first n segments.
  pub record OwnWeights (start n : ℕ) (t : List ℕ) : Type 0 where
    pub long : length t ≡ 64
    pub own : (k : ℕ) → k < n → at t k ≡ byte_of b start 12 k

  -- Is the segment of a repeater one of n, and has it branches?
  abbrev pub site_branched : List ℕ → ℕ → ℕ → ℕ → Bool
  site_branched first start n k = branched first n (byte_of b start 2 k)

  -- Is the segment of a repeater before that of the next?
  abbrev pub sites_rise : ℕ → ℕ → Bool
  sites_rise start k = ltb (byte_of b start 2 k) (byte_of b start 2 (k + 1))

-- What an answer says of the segments of a run: whether the fields of all pass, which question 10 asks first, and then whether each has a sink or branches.
abbrev pub fields_pass : {A : Type 0} → Result A Refusal → Bool
fields_pass r = not (eqb (refusal_number r) 10)

abbrev pub ends_pass : {A : Type 0} → Result A Refusal → Bool
ends_pass r = eqb (refusal_number r) 0

-- Where among all records the segments start.
abbrev pub first_segment : Counts → ℕ
first_segment c = c.widths + c.sizes + c.stages
