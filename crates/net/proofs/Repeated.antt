-- Worked jobs with repeaters, by computation: the net of `ARepeater` as the bytes of a job has the same figures, and each question that repeaters
-- change has its number, 22 and 23 in each of their ways and in their places.
use mathlib.Core.Path.{◌≡◌, refl}
use mathlib.Core.List.{List, [], ◌∷◌, ◌++◌, map}
use Prim.Native.Nat.{ℕ}
use lib.ListN.{set, replicate}
use Rattle.lattice.specs.Lists.{every, some, sum}
use Rattle.net.specs.Job.{count_if, counts_of, widths_of, first_row}
use Rattle.net.specs.Net.{net_of}
use Rattle.net.specs.Delay.{branches_to, climb, repeated, at_repeater, under, stage_load, stages_delay, segment_delay, delay, gates_load, outputs_load, repeaters_load, load_figure}
use Rattle.net.specs.Weights.{last_at, sink_weight}
use Rattle.net.specs.Questions.{question1, question2, question24, question3, question4, zeros, weight_zeros, sink_or_zero, question5, question6, question7, question8, question9, question10, has_branches, question11, question22, question23, question20, question21, first_no, job_questions, refusal}
use Rattle.net.specs.Answers.{little_endian}

abbrev pub size : (number resistance gate output : ℕ) → List ℕ
size n r g o = 2 ∷ n ∷ 0 ∷ 0 ∷ little_endian 4 r ++ little_endian 4 g ++ little_endian 4 o

abbrev pub segment : (number parent sink weight : ℕ) → List ℕ
segment n p s w = 4 ∷ n ∷ p ∷ 1 ∷ little_endian 4 1 ++ little_endian 4 s ++ w ∷ 0 ∷ 0 ∷ 0 ∷ []

abbrev pub repeater : (number segment lowest highest : ℕ) → List ℕ
repeater n i l h = 5 ∷ n ∷ i ∷ l ∷ h ∷ replicate 11 0

-- Behind segment 0 hangs segment 1. The parent byte of segment 2 is given: 0 for the source, 2 for segment 1.
abbrev pub before : (parent : ℕ) → List ℕ
before p =
    (1 ∷ 0 ∷ 0 ∷ 0 ∷ little_endian 4 4 ++ little_endian 4 2 ++ replicate 4 0)
    ++ size 0 10 3 1
    ++ size 1 5 7 2
    ++ (3 ∷ replicate 15 0)
    ++ segment 0 0 5 1
    ++ segment 1 1 4 2
    ++ segment 2 p 3 1

-- The net of `ARepeater`, with the repeater's size 0 or 1.
abbrev job : List ℕ
job = before 0 ++ repeater 0 0 0 1

figures : delay (net_of job) (0 ∷ 0 ∷ 0 ∷ 0 ∷ 1 ∷ []) ∷ load_figure (net_of job) (0 ∷ 0 ∷ 0 ∷ 0 ∷ 1 ∷ []) ∷ [] ≡ 2184 ∷ 28 ∷ []
unfolding every some sum count_if counts_of first_row branches_to climb repeated at_repeater under stage_load stages_delay segment_delay last_at sink_weight delay gates_load outputs_load repeaters_load load_figure little_endian
figures = refl

-- The job itself, and a chain of three segments with a repeater behind the first and the second.
abbrev passing : List (List ℕ)
passing = job ∷ (before 2 ++ repeater 0 0 0 1 ++ repeater 1 1 0 1) ∷ []

-- Question 22: the segment is missing, or has no branches; the segments' numbers stay, or fall.
abbrev first22 : List (List ℕ)
first22 =
    (before 0 ++ repeater 0 3 0 1)
    ∷ (before 0 ++ repeater 0 1 0 1)
    ∷ (before 2 ++ repeater 0 0 0 1 ++ repeater 1 0 0 1)
    ∷ (before 2 ++ repeater 0 1 0 1 ++ repeater 1 0 0 1)
    ∷ []

-- Question 23: lowest above highest, and highest beyond the table.
abbrev first23 : List (List ℕ)
first23 = (before 0 ++ repeater 0 0 1 0) ∷ (before 0 ++ repeater 0 0 0 2) ∷ []

-- Repeater 0 fails 23, and repeater 1 fails 22, which comes first; segment 2 without its sink (at 99, 104 and 108) and 22, before which 11 comes.
abbrev around22 : List (List ℕ)
around22 =
    (before 2 ++ repeater 0 0 1 0 ++ repeater 1 3 0 1)
    ∷ set (set (set (before 0 ++ repeater 0 3 0 1) 99 0) 104 0) 108 0
    ∷ []

-- A kind 7, nine repeaters, a number that does not count from 0, and the first and the last unnamed byte.
abbrev others : List (List ℕ)
others =
    set job 112 7
    ∷ (job ++ repeater 1 0 0 1 ++ repeater 2 0 0 1 ++ repeater 3 0 0 1 ++ repeater 4 0 0 1 ++ repeater 5 0 0 1 ++ repeater 6 0 0 1 ++ repeater 7 0 0 1 ++ repeater 8 0 0 1)
    ∷ set job 113 1
    ∷ set job 117 1
    ∷ set job 127 1
    ∷ []

numbers : map refusal (passing ++ first22 ++ first23 ++ around22 ++ others) ≡ 0 ∷ 0 ∷ 22 ∷ 22 ∷ 22 ∷ 22 ∷ 23 ∷ 23 ∷ 22 ∷ 11 ∷ 2 ∷ 3 ∷ 4 ∷ 5 ∷ 5 ∷ []
unfolding every some count_if counts_of widths_of first_row question1 question2 question24 question3 question4 zeros weight_zeros question5 question6 question7 question8 question9 sink_or_zero question10 has_branches question11 question22 question23 question20 question21 first_no job_questions refusal little_endian
numbers = refl
