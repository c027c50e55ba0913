-- What is known of the kinds of a job's records where question 2 is passed, and where the run of each kind ends.
use Rattle.std.specs.Prelude.{◌≡◌, List, ℕ, ◌≤◌, ◌<◌}
use Rattle.net.specs.Job.{kind}
use Rattle.kinds.specs.declared.RunEnds.{RunEnds}
use Rattle.kinds.specs.declared.Kind.{Kind}
use Rattle.kinds.specs.declared.Kind.TheVariants.{Width, Size, Stage, Segment, Repeater, Weight}

-- The number of a kind.
abbrev pub number_of : Kind → ℕ
number_of Width = 1
number_of Size = 2
number_of Stage = 3
number_of Segment = 4
number_of Repeater = 5
number_of Weight = 6

-- The kinds of the first n records are 1 to 6 and never fall.
pub record Kinds (b : List ℕ) (n : ℕ) : Type 0 where
  pub known : (k : ℕ) → k < n → (1 ≤ kind b k) × (kind b k ≤ 6)
  pub order : (j k : ℕ) → j ≤ k → k < n → kind b j ≤ kind b k

-- Of n records those from p on and before q are of kind m.
pub record Run (b : List ℕ) (n m p q : ℕ) : Type 0 where
  pub starts : p ≤ q
  pub within : q ≤ n
  pub alike : (k : ℕ) → p ≤ k → k < q → kind b k ≡ m

-- The same, and q is n or of another kind.
pub record RunEnd (b : List ℕ) (n m p q : ℕ) : Type 0 where
  pub run : Run b n m p q
  pub stops : q < n → kind b q ≡ m → ⊥

-- Of n records the first run is of kind 1, and behind it follow those of kinds 2 to 6. A run may be empty.
pub record EndsOf (b : List ℕ) (n : ℕ) (e : RunEnds) : Type 0 where
  pub widths : RunEnd b n 1 0 e.widths
  pub sizes : RunEnd b n 2 e.widths e.sizes
  pub stages : RunEnd b n 3 e.sizes e.stages
  pub segments : RunEnd b n 4 e.stages e.segments
  pub repeaters : RunEnd b n 5 e.segments e.repeaters
  pub weights : RunEnd b n 6 e.repeaters e.weights
