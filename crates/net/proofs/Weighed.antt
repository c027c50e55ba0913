-- Worked jobs with weight records, by computation: a record's weight stands in the place of the segment's own byte, and each question that weight records
-- change has its number, 20 and 21 in each of their ways and in their places.
use mathlib.Core.Path.{◌≡◌, refl}
use mathlib.Core.List.{List, [], ◌∷◌, ◌++◌, map}
use Prim.Native.Nat.{ℕ}
use lib.ListN.{set}
use lib.Ieee.{of_bits}
use Rattle.lattice.specs.Lists.{every, some, sum}
use Rattle.net.specs.Job.{count_if, counts_of, widths_of, first_row}
use Rattle.net.specs.Weights.{last_at, counts_as, fraction_count, weight_count, weighs, sink_weight}
use Rattle.net.specs.Net.{net_of}
use Rattle.net.specs.Delay.{branches_to, climb, repeated, at_repeater, under, stage_load, stages_delay, segment_delay, delay}
use Rattle.net.specs.Questions.{question1, question2, question24, question3, question4, zeros, weight_zeros, sink_or_zero, question5, question6, question7, question8, question9, question10, has_branches, question11, question22, question23, question20, question21, first_no, job_questions, refusal}
use Rattle.net.specs.Answers.{little_endian}
use Rattle.net.specs.Starred.{J1, J5}
use Rattle.net.proofs.Repeated.{repeater, before}

abbrev weight : (segment form whole bits : ℕ) → List ℕ
weight i f w b = 6 ∷ i ∷ f ∷ 0 ∷ little_endian 4 w ++ little_endian 8 b

abbrev absent : (segment : ℕ) → List ℕ
absent i = weight i 0 0 0

abbrev whole : (segment number : ℕ) → List ℕ
whole i w = weight i 1 w 0

abbrev fraction : (segment bits : ℕ) → List ℕ
fraction i b = weight i 2 0 b

-- Of J1, whose weight byte is 1, with the sizing (0, 0): the weight absent, 3 as a whole number, 2/256 and minus zero.
delays : map (λ r. delay (net_of (J1 ++ r)) (0 ∷ 0 ∷ [])) (absent 0 ∷ whole 0 3 ∷ fraction 0 0x3F80000000000000 ∷ fraction 0 0x8000000000000000 ∷ []) ≡ 208 ∷ 624 ∷ 416 ∷ 0 ∷ []
unfolding every some sum count_if counts_of first_row branches_to climb repeated at_repeater under stage_load stages_delay segment_delay delay of_bits last_at counts_as fraction_count weight_count weighs sink_weight little_endian
delays = refl

-- The weight absent, 255 as a whole number, 255/256 and minus zero.
abbrev passing : List (List ℕ)
passing = map (λ r. J1 ++ r) (absent 0 ∷ whole 0 255 ∷ fraction 0 0x3FEFE00000000000 ∷ fraction 0 0x8000000000000000 ∷ [])

-- Question 20: the segment is missing; it has no sink, as the first of J5; form 3; a whole number 256.
abbrev first20 : List (List ℕ)
first20 = (J1 ++ absent 1) ∷ (J5 ++ absent 0) ∷ (J1 ++ weight 0 3 0 0) ∷ (J1 ++ whole 0 256) ∷ []

-- Question 21: 1, 1/512, the number after 1/256, -1/256, the smallest above 0, an infinity and what is no number.
abbrev first21 : List (List ℕ)
first21 =
    map (λ b. J1 ++ fraction 0 b)
    (0x3FF0000000000000 ∷ 0x3F60000000000000 ∷ 0x3F70000000000001 ∷ 0xBF70000000000000 ∷ 1 ∷ 0x7FF0000000000000 ∷ 0x7FF8000000000000 ∷ [])

-- The first record fails 21, and the second 20, which comes first; a repeater's range that is empty and a segment that is missing, before which 23 comes.
abbrev around20 : List (List ℕ)
around20 = (J5 ++ fraction 1 0x3FF0000000000000 ++ absent 3) ∷ (before 0 ++ repeater 0 0 1 0 ++ absent 3) ∷ []

-- A kind 7, and a weight before a repeater; the same segment twice, and segments that fall; byte 3, byte 4 of form 0, byte 8 of form 1, byte 4 of form 2
-- and byte 15 of form 3.
abbrev others : List (List ℕ)
others =
    (J1 ++ set (absent 0) 0 7)
    ∷ (before 0 ++ absent 0 ++ repeater 0 0 0 1)
    ∷ (J5 ++ absent 1 ++ absent 1)
    ∷ (J5 ++ absent 2 ++ absent 1)
    ∷ (J1 ++ set (absent 0) 3 1)
    ∷ (J1 ++ set (absent 0) 4 1)
    ∷ (J1 ++ set (whole 0 1) 8 1)
    ∷ (J1 ++ set (fraction 0 0) 4 1)
    ∷ (J1 ++ set (weight 0 3 0 0) 15 1)
    ∷ []

numbers : map refusal (passing ++ first20 ++ first21 ++ around20 ++ others)
    ≡ 0 ∷ 0 ∷ 0 ∷ 0 ∷ 20 ∷ 20 ∷ 20 ∷ 20 ∷ 21 ∷ 21 ∷ 21 ∷ 21 ∷ 21 ∷ 21 ∷ 21 ∷ 20 ∷ 23 ∷ 2 ∷ 2 ∷ 4 ∷ 4 ∷ 5 ∷ 5 ∷ 5 ∷ 5 ∷ 5 ∷ []
unfolding every some count_if counts_of widths_of first_row of_bits counts_as question1 question2 question24 question3 question4 zeros weight_zeros question5 question6 question7 question8 question9 sink_or_zero question10 has_branches question11 question22 question23 question20 question21 first_no job_questions refusal little_endian
numbers = refl
