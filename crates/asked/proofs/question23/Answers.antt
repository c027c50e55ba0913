-- `asked::question23` meets its contract: the test of each repeater is the definition's.
use Rattle.asked.proofs.Regroup.{question23-by}
use Rattle.asked.proofs.question23.Goals as goal

pub returns : goal.returns
returns c = question23-by _ _ (cc)
