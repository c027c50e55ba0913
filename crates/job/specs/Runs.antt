-- A run of records: `start` is its first record, k a record's place in it, from 0.
use Rattle.std.specs.Prelude.{ℕ, ◌+◌, ◌*◌, ◌≤◌, List, length}
use Rattle.net.specs.Job.{byte, word}

module _ (b : List ℕ) where
  -- All records of a run are there.
  abbrev pub HasRun : ℕ → ℕ → Type 0
  HasRun start n = 16 * (start + n) ≤ length b

  -- The byte and the word at `at` of a record.
  abbrev pub byte_of : ℕ → ℕ → ℕ → ℕ
  byte_of start at k = byte b (16 * (start + k) + at)

  abbrev pub word_of : ℕ → ℕ → ℕ → ℕ
  word_of start at k = word b (16 * (start + k) + at)
