-- `asked::question1` meets its contract: sixteen times the count of records is the length where the length is a multiple of sixteen.
use Rattle.asked.proofs.Regroup.{question1-by}
use Rattle.asked.proofs.question1.Goals as goal

pub returns : goal.returns
returns c = question1-by _ _ c.requires
