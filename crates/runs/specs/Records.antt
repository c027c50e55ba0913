-- Tests of one record, which the questions ask of each record of a run. A run starts at the record `start`; k is a record's place in it, from 0.
use Rattle.std.specs.Prelude.{Bool, ◌&&◌, List, ℕ, ◌+◌, ◌*◌, leb, ltb, eqb}
use Rattle.lattice.specs.Lists.{every}
use Rattle.net.specs.Job.{byte}
use Rattle.net.specs.Questions.{in_range}
use Rattle.job.specs.Runs.{byte_of, word_of}

module _ (b : List ℕ) where
  -- Is the byte at `at` of record k at most that of the next?
  abbrev pub byte_in_order : ℕ → ℕ → ℕ → Bool
  byte_in_order start at k = leb (byte_of b start at k) (byte_of b start at (k + 1))

  -- Is the byte at `at` of record k below that of the next?
  abbrev pub byte_rises : ℕ → ℕ → ℕ → Bool
  byte_rises start at k = ltb (byte_of b start at k) (byte_of b start at (k + 1))

  -- Is the number of a record its place in the run?
  abbrev pub number_in_order : ℕ → ℕ → Bool
  number_in_order start k = eqb (byte_of b start 1 k) k

  -- Are the n bytes from p on zero?
  abbrev pub zero_from : ℕ → ℕ → Bool
  zero_from p n = every n (λ i. eqb (byte b (p + i)) 0)

  -- Are the n bytes from `at` on of a record zero?
  abbrev pub zero_bytes : ℕ → ℕ → ℕ → ℕ → Bool
  zero_bytes start at n k = zero_from (16 * (start + k) + at) n

  -- Is the byte at `at` from l to h?
  abbrev pub byte_within : ℕ → ℕ → ℕ → ℕ → ℕ → Bool
  byte_within start at l h k = in_range l h (byte_of b start at k)

  -- Is the word at `at` from l to h?
  abbrev pub word_within : ℕ → ℕ → ℕ → ℕ → ℕ → Bool
  word_within start at l h k = in_range l h (word_of b start at k)

  -- Has record k of a table a larger resistance and a smaller capacitance than the next?
  abbrev pub rows_in_order : ℕ → ℕ → Bool
  rows_in_order start k = ltb (word_of b start 4 (k + 1)) (word_of b start 4 k) && ltb (word_of b start 8 k) (word_of b start 8 (k + 1))

  -- Is the byte at `at` at most the next one, and that one below n?
  abbrev pub range_within : ℕ → ℕ → ℕ → ℕ → Bool
  range_within start at n k = leb (byte_of b start at k) (byte_of b start (at + 1) k) && ltb (byte_of b start (at + 1) k) n
