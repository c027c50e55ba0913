-- `questions::questions_from_24` meets its contract: question 8 is asked where question 3 says that there is a stage.
use Rattle.questions.proofs.Numbers.{passes, in-counts}
use Rattle.questions.proofs.questions_from_24.Goals as goal

pub question8-requires : goal.question8-requires
question8-requires c = (in-counts _ (passes _ c.question3.ensures c.in_ok-require-2.ensures)).0
