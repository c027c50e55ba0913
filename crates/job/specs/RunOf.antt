-- Which run of a job's records a run is.
use Rattle.std.specs.Prelude.{◌≡◌, ℕ, List}
use Rattle.job.specs.declared.runs.Run.{Run}

-- r is the run of n records from the record s on.
pub record RunOf (b : List ℕ) (s n : ℕ) (r : Run) : Type 0 where
  pub bytes : r.bytes.now ≡ b
  pub start : r.start ≡ s
  pub count : r.count ≡ n
