-- What the programs write, for every input: the section 'Programs' of the specification.
use Rattle.std.specs.Prelude.{◌≡◌, Bool, true, false, cond, Option, Some, None, ℕ, ◌+◌, ◌≤◌, ltb, eqb, length, drop}
use mathlib.Core.List.{List, [], ◌++◌, flat_map}
use Rattle.text.specs.Spelling.{ascii, spelling}
use Rattle.lattice.specs.Lists.{at, from}
use Rattle.net.specs.Net.{Net, net_of}
use Rattle.net.specs.Sizings.{least_delay, lean, wide, lower_bound, upper_bound}
use Rattle.net.specs.Answers.{reply_length, size_number, finished_reply, bounds_reply}

-- Lean or wide at a place: its index where it is known, `-` otherwise.
unfoldable pub index_text : Option ℕ → List ℕ
index_text None = ascii "-"
index_text (Some k) = spelling k

-- The line of a place: its kind, number, lower, upper, lean, wide.
unfoldable pub place_line : List ℕ → (number lower upper : ℕ) → (lean wide : Option ℕ) → List ℕ
place_line kind number lower upper lean wide =
    kind ++ spelling number
    ++ ascii " " ++ spelling lower
    ++ ascii " " ++ spelling upper
    ++ ascii " " ++ index_text lean
    ++ ascii " " ++ index_text wide
    ++ ascii "\n"

-- The figures of the places, each by place; lean and wide where they are known.
pub record Figures : Type 0 where
  pub lower : ℕ → ℕ
  pub upper : ℕ → ℕ
  pub lean : ℕ → Option ℕ
  pub wide : ℕ → Option ℕ

-- The lines of n places of one kind, numbered from 0, of which the first is place p.
unfoldable pub kind_lines : Figures → List ℕ → (p n : ℕ) → List ℕ
kind_lines f kind p n =
    flat_map (λ i. place_line kind i (f.lower (p + i)) (f.upper (p + i)) (f.lean (p + i)) (f.wide (p + i))) (from 0 n)

-- The lines of all places: stages first, then segments, then repeaters.
unfoldable pub place_lines : Figures → (stages segments repeaters : ℕ) → List ℕ
place_lines f stages segments repeaters =
    kind_lines f (ascii "stage ") 0 stages
    ++ kind_lines f (ascii "segment ") stages segments
    ++ kind_lines f (ascii "repeater ") (stages + segments) repeaters

-- An index, where it is known.
abbrev pub if_known : Bool → ℕ → Option ℕ
if_known known k = cond known (Some k) None

-- The figures of a net's places, and their lines, with lean and wide where they are known.
abbrev pub net_figures : Bool → Net → Figures
net_figures known net =
    record {
      lower = at (lower_bound net);
      upper = at (upper_bound net);
      lean = λ p. if_known known (at (lean net) p);
      wide = λ p. if_known known (at (wide net) p);
    }

unfoldable pub net_lines : Bool → Net → List ℕ
net_lines known net = place_lines (net_figures known net) net.stages net.segments net.repeaters

-- The line of a refusal.
unfoldable pub refused_line : ℕ → List ℕ
refused_line number = ascii "refused " ++ spelling number ++ ascii "\n"

-- The lines of an answer: the number 0, the least scaled delay, and a line for each place.
abbrev pub answer_with : ℕ → List ℕ → List ℕ
answer_with least lines = ascii "answer 0\ndelay " ++ spelling least ++ ascii "\n" ++ lines

unfoldable pub answer_text : Net → List ℕ
answer_text net = answer_with (least_delay net) (net_lines true net)

-- The number of a job: that of size with a buffer that holds the reply, so question 12 never fails.
unfoldable pub job_number : List ℕ → ℕ
job_number job = size_number job (reply_length (net_of job))

-- Is an input longer than the programs take?
abbrev pub is_too_long : List ℕ → Bool
is_too_long input = ltb 65536 (length input)

-- What the sizing program prints for a job, by its number.
unfoldable pub job_text : List ℕ → ℕ → List ℕ
job_text job number =
    cond (eqb number 0) (answer_text (net_of job)) (refused_line number ++ cond (eqb number 14) (net_lines false (net_of job)) [])

-- What the sizing program prints for an input.
unfoldable pub printed : List ℕ → List ℕ
printed input = cond (is_too_long input) (ascii "too long\n") (job_text input (job_number input))

-- What the program that writes the reply as bytes writes to standard output: the reply, where there is one.
unfoldable pub reply_of : List ℕ → ℕ → List ℕ
reply_of job number = cond (eqb number 0) (finished_reply (net_of job)) (cond (eqb number 14) (bounds_reply (net_of job)) [])

unfoldable pub replied : List ℕ → List ℕ
replied input = cond (is_too_long input) [] (reply_of input (job_number input))

-- What it writes to standard error: nothing with the number 0, and otherwise the line that the sizing program prints first.
unfoldable pub told : List ℕ → List ℕ
told input = cond (is_too_long input) (ascii "too long\n") (cond (eqb (job_number input) 0) [] (refused_line (job_number input)))

-- A text stands at the start of a buffer that holds it, n bytes long, and behind it the buffer is as it was.
pub record Holds (text before after : List ℕ) (n : ℕ) : Type 0 where
  pub long : n ≡ length text
  pub fits : n ≤ length before
  pub buffer : after ≡ text ++ drop n before
