-- What the search between the bounds is given, what it finds, and the buffer after it.
use Rattle.std.specs.Prelude.{◌≡◌, cond, List, ◌++◌, ℕ, eqb, drop}
use Rattle.net.specs.declared.Counts.{Counts}
use Rattle.lattice.specs.Least as least
use Rattle.lattice.specs.Refine as refining
use Rattle.net.specs.Net.{Net, net_by}
use Rattle.net.specs.Driving.{Driving, allowed_by, delay_by}
use Rattle.net.specs.Order.{driving_by}
use Rattle.net.specs.Answers.{reply_length, finished_reply, bounds_reply}

-- Both bounds of a net, by position.
pub record Bounded (net : Driving) (lower upper : List ℕ) : Type 0 where
  pub is_lower : lower ≡ refining.lower (allowed_by net) (delay_by net)
  pub is_upper : upper ≡ refining.upper (allowed_by net) (delay_by net)

-- The least delay, lean and wide of a net, by position.
pub record LeastOf (net : Driving) (d : ℕ) (l w : List ℕ) : Type 0 where
  pub is_least : d ≡ least.least_delay (allowed_by net) (delay_by net)
  pub is_lean : l ≡ least.lean (allowed_by net) (delay_by net)
  pub is_wide : w ≡ least.wide (allowed_by net) (delay_by net)

-- The buffer after the number n.
unfoldable pub buffer_from : Net → ℕ → List ℕ → List ℕ
buffer_from net n before =
    cond (eqb n 0) (finished_reply net ++ drop (reply_length net) before) (cond (eqb n 14) (bounds_reply net ++ drop (reply_length net) before) before)

-- The same of the net of a job, by the counts of its records and its bytes.
module _ (c : Counts) (b : List ℕ) where
  abbrev pub BoundedBy : (lower upper : List ℕ) → Type 0
  BoundedBy lower upper = Bounded (driving_by c b) lower upper

  abbrev pub LeastBy : ℕ → (l w : List ℕ) → Type 0
  LeastBy d l w = LeastOf (driving_by c b) d l w

  abbrev pub buffer_by : ℕ → List ℕ → List ℕ
  buffer_by n before = buffer_from (net_by c b) n before
