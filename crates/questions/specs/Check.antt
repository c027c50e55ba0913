-- What the contracts of `check` and of its parts say.
use Rattle.std.specs.Prelude.{◌≡◌, true, List, [], ◌∷◌, ℕ, ◌*◌, length, Result, Ok, Err, IfOk}
use Rattle.net.specs.declared.Counts.{Counts}
use Rattle.net.specs.Job.{records, counts_of}
use Rattle.net.specs.Questions.{question1, question2, question24, question3, question4, question5, question6, question7, question8, question9, question10, question11, question22, question23, question20, question21, Question, ask, refusal}
use Rattle.net.specs.Checked.{SinkWeights}
use Rattle.job.specs.declared.Job.{Job}
use Rattle.job.specs.declared.counted.AllRecords.{AllRecords}
use Rattle.links.specs.Links.{LinkedBy}
use Rattle.refusal.specs.Numbers.{number_of}
use Rattle.questions.specs.declared.Passed.{Passed}
use Rattle.questions.specs.declared.Failed.{Failed}

-- The number of the question that refuses a job, 0 where it passes all; and the count of its records.
abbrev pub check_number : Result Passed Failed → ℕ
check_number (Ok p) = 0
check_number (Err f) = number_of f.refusal

abbrev pub check_records : Result Passed Failed → ℕ
check_records (Ok p) = p.records
check_records (Err f) = f.records

-- r is the records of the job b, counted by kind, and the job passes questions 1 and 2.
pub record Begun (b : List ℕ) (r : AllRecords) : Type 0 where
  pub bytes : r.records.bytes.now ≡ b
  pub one : question1 b ≡ true
  pub two : question2 b ≡ true
  pub counted : r.records.counts ≡ counts_of b

-- j is the job b, which has the facts of `Checked` by its type; its segments are linked, and the weights of their sinks are loaded.
pub record PassedOf (b : List ℕ) (j : Job) (first next weights : List ℕ) : Type 0 where
  pub bytes : j.bytes.now ≡ b
  pub counted : j.counts ≡ counts_of b
  pub linked : LinkedBy j.counts j.bytes.now first next
  pub weighed : SinkWeights j.counts j.bytes.now weights

-- The number is that of the first question that the job fails; the count is that of the job's records, and sixteen times it is the length wherever
-- question 1 passes; where no question is failed the job is handed on.
pub record CheckOf (b : List ℕ) (r : Result Passed Failed) (first next weights : List ℕ) : Type 0 where
  pub number : check_number r ≡ refusal b
  pub records : check_records r ≡ records b
  pub filled : question1 b ≡ true → 16 * check_records r ≡ length b
  pub passed : IfOk r (λ p. PassedOf b p.job first next weights)

-- The questions that are asked before the records are counted; those that are asked before linking, from 24 on; those that are asked last, from 22 on; and all that are asked from linking on.
unfoldable pub questions_from1 : List ℕ → List Question
questions_from1 b = ask 1 (question1 b) ∷ ask 2 (question2 b) ∷ []

unfoldable pub questions_from24 : Counts → List ℕ → List Question
questions_from24 c b =
    ask 24 (question24 c b)
    ∷ ask 3 (question3 c)
    ∷ ask 4 (question4 c b)
    ∷ ask 5 (question5 c b)
    ∷ ask 6 (question6 c b)
    ∷ ask 7 (question7 c b)
    ∷ ask 8 (question8 c b)
    ∷ []

unfoldable pub questions_from22 : Counts → List ℕ → List Question
questions_from22 c b = ask 22 (question22 c b) ∷ ask 23 (question23 c b) ∷ ask 20 (question20 c b) ∷ ask 21 (question21 c b) ∷ []

unfoldable pub questions_from9 : Counts → List ℕ → List Question
questions_from9 c b = ask 9 (question9 c b) ∷ ask 10 (question10 c b) ∷ ask 11 (question11 c b) ∷ questions_from22 c b
