-- What the programs write for worked jobs, as whole texts. `proofs/Worked` proves the table by computation.
use Rattle.std.specs.Prelude.{List, [], ◌∷◌, ℕ}
use Rattle.text.specs.Spelling.{ascii}
use Rattle.net.specs.Starred.{J2, J4}
use Rattle.output.specs.Printed.{printed, told}

-- What is written, and the text that it should be.
pub record Row : Type 0 where
  pub given : List ℕ
  pub text : List ℕ

abbrev is : List ℕ → List ℕ → Row
is g t = record { given = g; text = t }

unfoldable pub worked_table : List Row
worked_table =
    is (printed J4) (ascii "answer 0\ndelay 260\nstage 0 0 0 0 0\nstage 1 0 1 0 0\nsegment 0 0 1 0 0\n")
    ∷ is (printed J2) (ascii "answer 0\ndelay 166\nstage 0 0 0 0 0\nsegment 0 0 1 0 1\n")
    ∷ is (printed []) (ascii "refused 1\n")
    ∷ is (told J4) []
    ∷ is (told []) (ascii "refused 1\n")
    ∷ []
