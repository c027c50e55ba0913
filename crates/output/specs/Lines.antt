-- The bytes of a reply as the lines' figures: cited by the contracts of inner functions, and no reader need believe this file.
use Rattle.std.specs.Prelude.{◌≡◌, Bool, List, ℕ, suc, ◌+◌, ◌*◌}
use Rattle.lattice.specs.Lists.{at}
use Rattle.net.specs.declared.Counts.{Counts}
use Rattle.output.specs.Printed.{Figures, if_known, place_lines}
use Rattle.output.specs.declared.PlaceFigures.{PlaceFigures}

-- Byte j of a place's record in a reply.
abbrev pub field : List ℕ → ℕ → ℕ → ℕ
field reply j p = at reply (8 * suc p + j)

-- The figures in the records of a reply; lean and wide where it is finished.
abbrev pub figures_in : Bool → List ℕ → Figures
figures_in finished reply =
    record {
      lower = field reply 0;
      upper = field reply 1;
      lean = λ p. if_known finished (field reply 2 p);
      wide = λ p. if_known finished (field reply 3 p);
    }

-- The figures of one place.
pub record HasFigures (f : Figures) (p : ℕ) (figures : PlaceFigures) : Type 0 where
  pub lower : figures.lower ≡ f.lower p
  pub upper : figures.upper ≡ f.upper p
  pub lean : figures.lean ≡ f.lean p
  pub wide : figures.wide ≡ f.wide p

-- The lines of all places, by the bytes of a reply.
abbrev pub lines_in : Bool → List ℕ → Counts → List ℕ
lines_in finished reply c = place_lines (figures_in finished reply) c.stages c.segments c.repeaters
