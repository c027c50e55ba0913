-- How the segments at a node are found without asking all of them: by the first that hangs there, and from each by the next at the same node.
use Rattle.std.specs.Prelude.{◌≡◌, List, ℕ, suc, ◌-◌, ◌≤◌, ◌<◌, length, get_or}
use Rattle.net.specs.declared.Counts.{Counts}
use Rattle.net.specs.Net.{Net, net_by}
use Rattle.net.specs.Segments.{forest}

-- i is the first segment from j on that hangs at the node q; where there is none, i is the number of segments.
pub record First (net : Net) (q j i : ℕ) : Type 0 where
  pub from : j ≤ i
  pub within : i ≤ net.segments
  pub none : (k : ℕ) → j ≤ k → k < i → net.parent k ≡ q → ⊥
  pub there : i < net.segments → net.parent i ≡ q

-- `first` has the first segment at each node, `next` the next sibling of each segment.
pub record Linked (net : Net) (first next : List ℕ) : Type 0 where
  pub nodes : net.segments < length first
  pub segments : net.segments ≤ length next
  pub firsts : (q : ℕ) → q ≤ net.segments → First net q 0 (get_or first q 0)
  pub nexts : (i : ℕ) → i < net.segments → First net (net.parent i) (suc i) (get_or next i 0)

-- The same of the net of a job, by the counts of its records and its bytes.
abbrev pub LinkedBy : Counts → List ℕ → List ℕ → List ℕ → Type 0
LinkedBy c b first next = Linked (net_by c b) first next

-- Both tables have kept their lengths.
abbrev pub SameLengths : (first next first' next' : List ℕ) → Type 0
SameLengths first next first' next' = (length first' ≡ length first) × (length next' ≡ length next)

-- Before any segment is linked: of `long` entries those below q say that there is none of n.
pub record Unlinked (n long : ℕ) (first : List ℕ) (q : ℕ) : Type 0 where
  pub same : length first ≡ long
  pub none : (k : ℕ) → k < q → get_or first k 0 ≡ n

-- The branches of segment j and of its siblings after it, each by what it has with its own branches: nothing where j is the number of segments.
abbrev pub siblings : Net → (ℕ → ℕ → ℕ) → ℕ → ℕ
siblings net has j = forest net.parent has (net.segments - j) (net.parent j) j
