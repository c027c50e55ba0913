-- What a search keeps, from the parts that the code holds.
use Rattle.std.specs.Prelude.{◌≡◌, List, ℕ, length}
use Rattle.lattice.specs.Search.{Found}
use Rattle.envelope.specs.declared.Kept.{Kept}

-- The least delay with the envelope from below and the envelope from above.
abbrev pub found : ℕ → List ℕ → List ℕ → Found
found least lean wide = record { least = least; lean = lean; wide = wide }

abbrev pub found_of : Kept → Found
found_of k = found k.least.0 k.lean.now k.wide.now

-- Both envelopes are written into the space that was lent for them, which stays as long as it was.
pub record SameSpace (a b : Kept) : Type 0 where
  pub lean : b.lean.ghost_name ≡ a.lean.ghost_name
  pub wide : b.wide.ghost_name ≡ a.wide.ghost_name
  pub lean_long : length b.lean.now ≡ length a.lean.now
  pub wide_long : length b.wide.now ≡ length a.wide.now
