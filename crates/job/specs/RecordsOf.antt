-- Which job's records these are.
use Rattle.std.specs.Prelude.{◌≡◌, ℕ, List}
use Rattle.net.specs.declared.Counts.{Counts}
use Rattle.job.specs.declared.counted.Records.{Records}

-- r is the records of the job b, counted as c says.
pub record RecordsOf (c : Counts) (b : List ℕ) (r : Records) : Type 0 where
  pub bytes : r.bytes.now ≡ b
  pub counts : r.counts ≡ c
