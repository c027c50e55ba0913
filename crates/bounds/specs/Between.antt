-- What is asked of two bounds before the room between them is counted.
use Rattle.std.specs.Prelude.{Bool, List, ℕ, suc, ◌-◌, ◌≤◌, ◌<◌, leb, length}
use Rattle.lattice.specs.Lists.{at, product}

-- Both have n indices, and at each place the lower is at most the upper.
pub record Between (n : ℕ) (lower upper : List ℕ) : Type 0 where
  pub lower_long : n ≤ length lower
  pub upper_long : n ≤ length upper
  pub in_order : (p : ℕ) → p < n → at lower p ≤ at upper p

-- Is the room between them at most 65,536?
abbrev pub roomy : ℕ → List ℕ → List ℕ → Bool
roomy n lower upper = leb (product n (λ p. suc (at upper p - at lower p))) 65536
