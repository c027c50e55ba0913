-- What the contracts of this crate say: the question of size that needs the bounds, the number that an answer stands for, and the promise of size in
-- one name.
use Rattle.std.specs.Prelude.{◌≡◌, ◌≢◌, cond, List, ℕ, leb, length, Result, Ok, Err}
use Rattle.net.specs.declared.Counts.{Counts}
use Rattle.net.specs.Job.{counts_of}
use Rattle.net.specs.Net.{Net}
use Rattle.net.specs.Sizings.{room}
use Rattle.net.specs.Questions.{refusal}
use Rattle.net.specs.Answers.{size_number, size_buffer}
use Rattle.net.specs.Promises.{Promises}
use Rattle.refusal.specs.Numbers.{number_of}
use Rattle.size.specs.declared.Reply.{Reply}
use Rattle.size.specs.declared.Reply.TheVariants.{Finished, BoundsOnly}
use Rattle.size.specs.declared.Unwritten.{Unwritten}
use Rattle.size.specs.declared.Unwritten.TheVariants.{Refused, TooShort}

-- 14 where question 14 fails, else 0.
unfoldable pub room_number : Net → ℕ
room_number net = cond (leb (room net) 65536) 0 14

-- The number of a reply, and the counts that are handed on with it.
abbrev pub reply_number : Reply → ℕ
reply_number (Finished c) = 0
reply_number (BoundsOnly c) = 14

abbrev pub reply_counts : Reply → Counts
reply_counts (Finished c) = c
reply_counts (BoundsOnly c) = c

-- The number where nothing is written.
abbrev pub unwritten_number : Unwritten → ℕ
unwritten_number (Refused r) = number_of r
unwritten_number (TooShort c) = 12

-- The number of an answer: that of its reply, or of the question that fails.
abbrev pub answer_number : Result Reply Unwritten → ℕ
answer_number (Ok r) = reply_number r
answer_number (Err u) = unwritten_number u

-- Where the job passes its questions, the counts that are handed on are its own.
abbrev pub AnswerCounts : List ℕ → Result Reply Unwritten → Type 0
AnswerCounts job (Ok r) = reply_counts r ≡ counts_of job
AnswerCounts job (Err (TooShort c)) = c ≡ counts_of job
AnswerCounts job (Err (Refused r)) = refusal job ≢ 0

-- The number and the buffer that is left are those of size: its three clauses.
abbrev pub Settled : List ℕ → List ℕ → ℕ → List ℕ → Type 0
Settled job before number after = (number ≡ size_number job (length before)) × ((after ≡ size_buffer job before) × Promises job before number after)
