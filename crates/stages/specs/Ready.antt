-- What the delay is computed from: a job that passed the questions before 11, and a sizing in its ranges.
use Rattle.std.specs.Prelude.{List, ℕ}
use Rattle.net.specs.declared.Counts.{Counts}
use Rattle.net.specs.Net.{net_by}
use Rattle.net.specs.Checked.{Checked, InRanges}

pub record Ready (c : Counts) (job x : List ℕ) : Type 0 where
  pub checked : Checked c job
  pub in_ranges : InRanges (net_by c job) x
