-- The jobs to check against that the specification marks with a star: each figure beside what the definitions give. `proofs/Starred` proves
-- the whole table by computation.
use Rattle.std.specs.Prelude.{List, [], ◌∷◌, ◌++◌, ℕ, replicate}
use Rattle.net.specs.Net.{net_of}
use Rattle.net.specs.Sizings.{least_delay, lean, wide}
use Rattle.net.specs.Questions.{refusal}
use Rattle.net.specs.Answers.{little_endian, measured, refined}

-- The four kinds of record: number within the kind, then the fields in the order of the format.
abbrev width : (number resistance capacitance : ℕ) → List ℕ
width n r c = 1 ∷ n ∷ 0 ∷ 0 ∷ little_endian 4 r ++ little_endian 4 c ++ replicate 4 0

abbrev size : (number resistance gate output : ℕ) → List ℕ
size n r g o = 2 ∷ n ∷ 0 ∷ 0 ∷ little_endian 4 r ++ little_endian 4 g ++ little_endian 4 o

abbrev stage : (number lowest highest : ℕ) → List ℕ
stage n l h = 3 ∷ n ∷ l ∷ h ∷ replicate 12 0

abbrev segment : (number parent sink length capacitance weight lowest highest : ℕ) → List ℕ
segment n p s len c w l h = 4 ∷ n ∷ p ∷ s ∷ little_endian 4 len ++ little_endian 4 c ++ w ∷ l ∷ h ∷ 0 ∷ []

-- J1, J2, J3: two widths, one stage, one segment with a sink; a driver resistance, a sink and a weight make the three.
abbrev pub line_job : (driver sink weight : ℕ) → List ℕ
line_job r s w = width 0 4 2 ++ width 1 2 3 ++ size 0 r 3 1 ++ stage 0 0 0 ++ segment 0 0 1 1 s w 0 1

abbrev pub J1 : List ℕ
J1 = line_job 10 5 1

abbrev pub J2 : List ℕ
J2 = line_job 9 4 1

abbrev pub J3 : List ℕ
J3 = line_job 10 5 0

-- J4: the same widths, two stages.
abbrev pub J4 : List ℕ
J4 = width 0 4 2 ++ width 1 2 3 ++ size 0 10 3 1 ++ size 1 5 7 1 ++ stage 0 0 0 ++ stage 1 0 1 ++ segment 0 0 1 1 4 1 0 1

-- J5: three segments, the last two branching from the first.
abbrev pub J5 : List ℕ
J5 = width 0 1 1 ++ size 0 1 1 0 ++ stage 0 0 0 ++ segment 0 0 0 1 0 0 0 0 ++ segment 1 1 1 2 1 1 0 0 ++ segment 2 1 1 3 2 2 0 0

-- Nine widths, in order, before what J1 has.
abbrev pub nine_widths : List ℕ
nine_widths =
    width 0 9 1 ++ width 1 8 2 ++ width 2 7 3 ++ width 3 6 4 ++ width 4 5 5 ++ width 5 4 6 ++ width 6 3 7 ++ width 7 2 8 ++ width 8 1 9
    ++ size 0 10 3 1 ++ stage 0 0 0 ++ segment 0 0 1 1 5 1 0 1

-- J1 with a non-zero unnamed byte in its first width, whose resistance is 0.
abbrev pub stray_byte : List ℕ
stray_byte = (1 ∷ 0 ∷ 0 ∷ 7 ∷ little_endian 4 0 ++ little_endian 4 2 ++ replicate 4 0) ++ width 1 2 3 ++ size 0 10 3 1 ++ stage 0 0 0 ++ segment 0 0 1 1 5 1 0 1

-- J1 with the resistance of its second width equal to that of its first.
abbrev pub equal_rows : List ℕ
equal_rows = width 0 4 2 ++ width 1 4 3 ++ size 0 10 3 1 ++ stage 0 0 0 ++ segment 0 0 1 1 5 1 0 1

-- A row of the table: what the definitions give, and the figure.
pub record Row : Type 0 where
  pub given : List ℕ
  pub figure : List ℕ

abbrev is : List ℕ → List ℕ → Row
is g f = record { given = g; figure = f }

-- The number and the delay that measure answers.
abbrev measure : List ℕ → List ℕ → List ℕ
measure job x = (measured job x).number ∷ (measured job x).delay ∷ []

-- The number and the load figure that measure answers.
abbrev load : List ℕ → List ℕ → List ℕ
load job x = (measured job x).number ∷ (measured job x).load ∷ []

-- The number, the smallest and the largest best index, and the delay reached, that refine answers.
abbrev refine : List ℕ → List ℕ → ℕ → List ℕ
refine job x p = (refined job x p).number ∷ (refined job x p).lowest ∷ (refined job x p).highest ∷ (refined job x p).delay ∷ []

-- The least delay, then lean and wide.
abbrev least : List ℕ → List ℕ
least job = least_delay (net_of job) ∷ lean (net_of job) ++ wide (net_of job)

unfoldable pub starred_table : List Row
starred_table =
    is (measure J1 (0 ∷ 0 ∷ [])) (0 ∷ 208 ∷ [])
    ∷ is (measure J1 (0 ∷ 1 ∷ [])) (0 ∷ 206 ∷ [])
    ∷ is (least J1) (206 ∷ 0 ∷ 1 ∷ 0 ∷ 1 ∷ [])
    ∷ is (measure J2 (0 ∷ 0 ∷ [])) (0 ∷ 166 ∷ [])
    ∷ is (measure J2 (0 ∷ 1 ∷ [])) (0 ∷ 166 ∷ [])
    ∷ is (least J2) (166 ∷ 0 ∷ 0 ∷ 0 ∷ 1 ∷ [])
    ∷ is (measure J3 (0 ∷ 0 ∷ [])) (0 ∷ 0 ∷ [])
    ∷ is (measure J3 (0 ∷ 1 ∷ [])) (0 ∷ 0 ∷ [])
    ∷ is (least J3) (0 ∷ 0 ∷ 0 ∷ 0 ∷ 1 ∷ [])
    ∷ is (measure J4 (0 ∷ 0 ∷ 0 ∷ [])) (0 ∷ 260 ∷ [])
    ∷ is (measure J4 (0 ∷ 0 ∷ 1 ∷ [])) (0 ∷ 262 ∷ [])
    ∷ is (measure J4 (0 ∷ 1 ∷ 0 ∷ [])) (0 ∷ 270 ∷ [])
    ∷ is (measure J4 (0 ∷ 1 ∷ 1 ∷ [])) (0 ∷ 262 ∷ [])
    ∷ is (load J4 (0 ∷ 0 ∷ 0 ∷ [])) (0 ∷ 11 ∷ [])
    ∷ is (refine J4 (0 ∷ 0 ∷ 1 ∷ []) 1) (0 ∷ 0 ∷ 1 ∷ 262 ∷ [])
    ∷ is (measure J5 (0 ∷ 0 ∷ 0 ∷ 0 ∷ [])) (0 ∷ 155 ∷ [])
    ∷ is (refusal [] ∷ []) (1 ∷ [])
    ∷ is (refusal (replicate 17 0) ∷ []) (1 ∷ [])
    ∷ is (refusal (replicate 16 0) ∷ []) (2 ∷ [])
    ∷ is (refusal nine_widths ∷ []) (3 ∷ [])
    ∷ is (refusal stray_byte ∷ []) (5 ∷ [])
    ∷ is (refusal equal_rows ∷ []) (7 ∷ [])
    ∷ []
