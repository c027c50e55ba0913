-- Tables of parts.
use Rattle.std.specs.Prelude.{List, ℕ, get_or}
use Rattle.parts.specs.declared.Part.{Part}

-- No part of the tree.
abbrev pub nothing : Part
nothing = record { weight = 0; load = record { 0 = 0 }; delay = record { 0 = 0 } }

-- Entry r of a table of parts.
abbrev pub part_at : List Part → ℕ → Part
part_at t r = get_or t r nothing
