-- The cheapest of the indices of one place: what a loop over them finds, cited by the contract of the code that refines. `proofs/Scan` shows
-- that the cheapest are the best where delays differ as prices do, so a reader need not believe this file.
use Rattle.std.specs.Prelude.{ℕ, ◌≤◌, ◌<◌}
use Rattle.lattice.specs.Side.{Side, Order}

-- i is the first, seen from s, of the indices from l on and below n that have the smallest price.
pub record Cheapest (s : Side) (l n : ℕ) (price : ℕ → ℕ) (i : ℕ) : Type 0 where
  pub low : l ≤ i
  pub high : i < n
  pub wins : (j : ℕ) → l ≤ j → j < n → price i ≤ price j
  pub first : (j : ℕ) → l ≤ j → j < n → price j ≤ price i → Order s i j
