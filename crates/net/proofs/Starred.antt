-- Every starred figure of the specification is what the definitions give, by computation.
use mathlib.Core.Path.{◌≡◌, refl}
use mathlib.Core.List.{map, flat_map}
use Rattle.lattice.specs.Lists.{tabulate, keep, from, span, extreme_of, every, some, sum, grid}
use Rattle.lattice.specs.Space.{in_box, within}
use Rattle.lattice.specs.Least.{sizings, envelope, least_delay, leasts, least_envelope}
use Rattle.lattice.specs.Refine.{choices, least_at, best}
use Rattle.net.specs.Job.{count_if, counts_of, of_kind, widths_of, first_row}
use Rattle.net.specs.Delay.{branches_to, climb, repeated, at_repeater, under, stage_load, stages_delay, segment_delay, delay, gates_load, outputs_load, repeaters_load, load_figure}
use Rattle.net.specs.Weights.{last_at, sink_weight}
use Rattle.net.specs.Questions.{question1, question2, question24, question3, question4, zeros, weight_zeros, sink_or_zero, question5, question6, question7, question8, question9, question10, has_branches, question11, question22, question23, question20, question21, first_no, job_questions, refusal}
use Rattle.net.specs.Answers.{little_endian, measure_number, measured, refine_number, refined}
use Rattle.net.specs.Starred.{starred_table}

pub starred : map (λ r. r.given) starred_table ≡ map (λ r. r.figure) starred_table
unfolding tabulate keep from span extreme_of every some sum grid in_box within sizings envelope least_delay leasts least_envelope choices least_at best count_if counts_of of_kind widths_of first_row branches_to climb repeated at_repeater under stage_load stages_delay segment_delay last_at sink_weight delay gates_load outputs_load repeaters_load load_figure question1 question2 question24 question3 question4 zeros weight_zeros sink_or_zero question5 question6 question7 question8 question9 question10 has_branches question11 question22 question23 question20 question21 first_no job_questions refusal little_endian measure_number measured refine_number refined starred_table flat_map
starred = refl
