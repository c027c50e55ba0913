-- What is kept with one more sizing, in each of the three ways its delay compares to the least.
use mathlib.Core.Path.{◌≡◌}
use mathlib.Core.List.{List}
use Prim.Native.Nat.{ℕ, ◌<◌, ◌≤◌}
use borrow.Author.Tests.{lt-ltb, le-ltb, eq-eqb, ne_eqb}
use Rattle.lattice.specs.Space.{meet, join}
use Rattle.lattice.specs.Search.{take}
use Rattle.envelope.specs.Kept.{found}

module _ (x : List ℕ) (d least : ℕ) (lean wide : List ℕ) where
  pub keep-less : d < least → found d x x ≡ take x d (found least lean wide)
  unfolding take
  keep-less h = rw (lt-ltb d least h)

  pub keep-tie : least ≤ d → d ≡ least → found least (meet x lean) (join x wide) ≡ take x d (found least lean wide)
  unfolding take
  keep-tie h e = rw (le-ltb d least h, eq-eqb d least e)

  pub keep-more : least ≤ d → (d ≡ least → ⊥) → found least lean wide ≡ take x d (found least lean wide)
  unfolding take
  keep-more h e = rw (le-ltb d least h, ne_eqb d least e)
