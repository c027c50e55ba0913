-- What the programs write for the worked jobs is what the definitions give, by computation: first the figures, then the texts.
use mathlib.Core.Path.{◌≡◌, refl}
use mathlib.Core.Bool.{false}
use mathlib.Core.List.{List, [], ◌∷◌, ◌++◌, map, flat_map}
use Prim.Native.Nat.{ℕ}
use Rattle.std.specs.Prelude.{Some}
use lib.Dec.{ltb}
use lib.ListN.{length}
use Rattle.text.specs.Spelling.{ascii, digits, spelling}
use Rattle.lattice.specs.Lists.{at, tabulate, keep, from, span, extreme_of, every, some, sum, product, grid}
use Rattle.lattice.specs.Space.{in_box, within}
use Rattle.lattice.specs.Least as least
use Rattle.lattice.specs.Refine as refining
use Rattle.net.specs.Net.{net_of}
use Rattle.net.specs.Sizings.{least_delay, lean, wide, lower_bound, upper_bound}
use Rattle.net.specs.Job.{count_if, counts_of, of_kind, widths_of, first_row}
use Rattle.net.specs.Delay.{branches_to, climb, repeated, at_repeater, under, stage_load, stages_delay, segment_delay, delay}
use Rattle.net.specs.Weights.{last_at, sink_weight}
use Rattle.net.specs.Questions.{question1, question2, question24, question3, question4, zeros, weight_zeros, sink_or_zero, question5, question6, question7, question8, question9, question10, has_branches, question11, question22, question23, question20, question21, first_no, job_questions}
use Rattle.net.specs.Answers.{little_endian, size_number}
use Rattle.net.specs.Starred.{J2, J4}
use Rattle.output.specs.Printed.{index_text, place_line, kind_lines, place_lines, net_lines, refused_line, answer_text, job_number, job_text, printed, told}
use Rattle.output.specs.Worked.{worked_table}

-- The figures of a job that is answered.
record Answered (job : List ℕ) (d : ℕ) (lo hi l w : List ℕ) : Type 0 where
  number : job_number job ≡ 0
  least : least_delay (net_of job) ≡ d
  lower : lower_bound (net_of job) ≡ lo
  upper : upper_bound (net_of job) ≡ hi
  lean : lean (net_of job) ≡ l
  wide : wide (net_of job) ≡ w

of-J4 : Answered J4 260 (0 ∷ 0 ∷ 0 ∷ []) (0 ∷ 1 ∷ 1 ∷ []) (0 ∷ 0 ∷ 0 ∷ []) (0 ∷ 0 ∷ 0 ∷ [])
unfolding tabulate keep from span extreme_of every some sum product grid in_box within least.sizings least.envelope least.least_delay least.leasts least.least_envelope refining.choices refining.least_at refining.best refining.fixed refining.bound refining.room count_if counts_of of_kind widths_of first_row branches_to climb repeated at_repeater under stage_load stages_delay segment_delay last_at sink_weight delay question1 question2 question24 question3 question4 zeros weight_zeros sink_or_zero question5 question6 question7 question8 question9 question10 has_branches question11 question22 question23 question20 question21 first_no job_questions little_endian size_number job_number flat_map
of-J4 = record { number = refl; least = refl; lower = refl; upper = refl; lean = refl; wide = refl }

of-J2 : Answered J2 166 (0 ∷ 0 ∷ []) (0 ∷ 1 ∷ []) (0 ∷ 0 ∷ []) (0 ∷ 1 ∷ [])
unfolding tabulate keep from span extreme_of every some sum product grid in_box within least.sizings least.envelope least.least_delay least.leasts least.least_envelope refining.choices refining.least_at refining.best refining.fixed refining.bound refining.room count_if counts_of of_kind widths_of first_row branches_to climb repeated at_repeater under stage_load stages_delay segment_delay last_at sink_weight delay question1 question2 question24 question3 question4 zeros weight_zeros sink_or_zero question5 question6 question7 question8 question9 question10 has_branches question11 question22 question23 question20 question21 first_no job_questions little_endian size_number job_number flat_map
of-J2 = record { number = refl; least = refl; lower = refl; upper = refl; lean = refl; wide = refl }

-- The text of an answered job, from its figures.
shown : (job : List ℕ) (d : ℕ) (lo hi l w : List ℕ) → Answered job d lo hi l w → ltb 65536 (length job) ≡ false
    → printed job ≡ ascii "answer 0\ndelay " ++ spelling d ++ ascii "\n" ++ place_lines record { lower = at lo; upper = at hi; lean = λ p. Some (at l p); wide = λ p. Some (at w p) } (counts_of job).stages (counts_of job).segments (counts_of job).repeaters
unfolding printed job_text answer_text net_lines
shown job d lo hi l w a e = rw (e, a.number, a.least, a.lower, a.upper, a.lean, a.wide)

text-J4 : printed J4 ≡ ascii "answer 0\ndelay 260\nstage 0 0 0 0 0\nstage 1 0 1 0 0\nsegment 0 0 1 0 0\n"
unfolding digits spelling index_text place_line kind_lines place_lines count_if counts_of little_endian flat_map from
text-J4 = shown J4 260 (0 ∷ 0 ∷ 0 ∷ []) (0 ∷ 1 ∷ 1 ∷ []) (0 ∷ 0 ∷ 0 ∷ []) (0 ∷ 0 ∷ 0 ∷ []) of-J4 refl

text-J2 : printed J2 ≡ ascii "answer 0\ndelay 166\nstage 0 0 0 0 0\nsegment 0 0 1 0 1\n"
unfolding digits spelling index_text place_line kind_lines place_lines count_if counts_of little_endian flat_map from
text-J2 = shown J2 166 (0 ∷ 0 ∷ []) (0 ∷ 1 ∷ []) (0 ∷ 0 ∷ []) (0 ∷ 1 ∷ []) of-J2 refl

told-J4 : told J4 ≡ []
unfolding told little_endian
told-J4 = rw of-J4.number

-- no bytes at all
none-refused : job_number [] ≡ 1
unfolding job_number size_number job_questions first_no question1
none-refused = refl

text-none : printed [] ≡ ascii "refused 1\n"
unfolding printed job_text refused_line digits spelling
text-none = rw none-refused

told_none : told [] ≡ ascii "refused 1\n"
unfolding told refused_line digits spelling
told_none = rw none-refused

pub worked : map (λ r. r.given) worked_table ≡ map (λ r. r.text) worked_table
unfolding worked_table
worked = rw (text-J4, text-J2, text-none, told-J4, told_none)
