-- `questions::check` meets its contract: the count of the records is put beside what the questions answer.
use Rattle.std.proofs.Common.{refl}
use Rattle.net.proofs.Records.{records-fill}
use Rattle.questions.proofs.Refused.{check-early}
use Rattle.questions.proofs.check.Goals as goal

pub returns-in-Ok : goal.returns-in-Ok
returns-in-Ok c = record { number = c.in-Ok.ensures.number; records = refl; filled = records-fill c.args.bytes.now; passed = c.in-Ok.ensures.passed }

pub returns-in-Err : goal.returns-in-Err
returns-in-Err c = check-early _ c.in-Err.ensures.number refl
