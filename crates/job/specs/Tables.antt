-- What a place's wire is read by.
use Rattle.std.specs.Prelude.{◌≡◌, ℕ, ◌+◌, ◌^◌, ◌<◌, List}
use Rattle.net.specs.declared.Counts.{Counts}
use Rattle.net.specs.Job.{byte, word, place_at, first_row}
use Rattle.job.specs.declared.Table.{Table}

-- t is what the wire of place p is read by: where the table of its layer starts, and its length.
pub record TableOf (c : Counts) (b : List ℕ) (p : ℕ) (t : Table) : Type 0 where
  pub rows : t.rows ≡ first_row c (byte b (place_at c p + 15))
  pub length : t.length ≡ word b (place_at c p + 4)
  pub length_bound : t.length < 2 ^ 32
