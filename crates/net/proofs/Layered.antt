-- Worked jobs of two layers, by computation: a segment's delay comes from the table of its own layer, and each question that layers change has its
-- number, question 24 in each of its ways and in its place. A job of one layer is worked in `specs/Starred`.
use mathlib.Core.Path.{◌≡◌, refl}
use mathlib.Core.List.{List, [], ◌∷◌, ◌++◌, map}
use Prim.Native.Nat.{ℕ}
use lib.ListN.{set, replicate}
use Rattle.lattice.specs.Lists.{every, some, sum}
use Rattle.net.specs.Job.{count_if, counts_of, widths_of, first_row}
use Rattle.net.specs.Net.{net_of}
use Rattle.net.specs.Delay.{branches_to, climb, repeated, at_repeater, under, stage_load, stages_delay, segment_delay, delay}
use Rattle.net.specs.Weights.{last_at, sink_weight}
use Rattle.net.specs.Questions.{question1, question2, question24, question3, question4, zeros, sink_or_zero, question5, question6, question7, question8, question9, question10, has_branches, question11, question22, question23, question20, question21, first_no, job_questions, refusal}
use Rattle.net.specs.Answers.{little_endian}
use Rattle.net.specs.Starred.{J1, nine_widths}

abbrev width : (layer number resistance capacitance : ℕ) → List ℕ
width l n r c = 1 ∷ n ∷ l ∷ 0 ∷ little_endian 4 r ++ little_endian 4 c ++ replicate 4 0

-- What J1 has behind its widths, with its segment on a layer.
abbrev behind : (layer : ℕ) → List ℕ
behind l =
    (2 ∷ 0 ∷ 0 ∷ 0 ∷ little_endian 4 10 ++ little_endian 4 3 ++ little_endian 4 1)
    ++ (3 ∷ 0 ∷ 0 ∷ 0 ∷ replicate 12 0)
    ++ (4 ∷ 0 ∷ 0 ∷ 1 ∷ little_endian 4 1 ++ little_endian 4 5 ++ 1 ∷ 0 ∷ 1 ∷ l ∷ [])

-- J1 with two widths of layer 1, the first of which has a larger resistance than the last of layer 0; its segment on a layer.
abbrev on : (layer : ℕ) → List ℕ
on l = width 0 0 4 2 ++ width 0 1 2 3 ++ width 1 0 3 4 ++ width 1 1 1 7 ++ behind l

-- The delays at the two widths, of the segment on layer 0 and on layer 1.
delays : map (λ l. delay (net_of (on l)) (0 ∷ 0 ∷ []) ∷ delay (net_of (on l)) (0 ∷ 1 ∷ []) ∷ []) (0 ∷ 1 ∷ []) ≡ (208 ∷ 206 ∷ []) ∷ (242 ∷ 277 ∷ []) ∷ []
unfolding every some sum count_if counts_of first_row branches_to climb repeated at_repeater under stage_load stages_delay segment_delay last_at sink_weight delay little_endian
delays = refl

-- The job itself; then, of question 24, the layer of the last width (at 50) and of the segment (at 111) above 1, layers that fall at the first
-- width (at 2), and layer 1 named by the segment of J1 (at 79), where it is empty.
abbrev first24 : List (List ℕ)
first24 = on 1 ∷ set (on 1) 50 2 ∷ set (on 1) 111 2 ∷ set (on 1) 2 1 ∷ set J1 79 1 ∷ []

-- With a kind 7 too: 2 comes before it. With nine widths too: it comes before 3.
abbrev around24 : List (List ℕ)
around24 = set (set (on 1) 0 7) 50 2 ∷ set nine_widths 191 2 ∷ []

-- No width of layer 0; numbers of layer 1 that count on from layer 0 (at 33 and 49); equal resistances in layer 1 (at 52); a highest index (at 110)
-- beyond layer 1 and within both.
abbrev others : List (List ℕ)
others = (width 1 0 4 2 ++ behind 1) ∷ set (set (on 1) 33 2) 49 3 ∷ set (on 1) 52 3 ∷ set (on 1) 110 2 ∷ []

numbers : map refusal (first24 ++ around24 ++ others) ≡ 0 ∷ 24 ∷ 24 ∷ 24 ∷ 24 ∷ 2 ∷ 24 ∷ 3 ∷ 4 ∷ 7 ∷ 10 ∷ []
unfolding every some count_if counts_of widths_of first_row question1 question2 question24 question3 question4 zeros question5 question6 question7 question8 question9 sink_or_zero question10 has_branches question11 question22 question23 question20 question21 first_no job_questions refusal little_endian
numbers = refl
