-- `asked::question22` meets its contract: the tests of each run, put together, are the definition.
use Rattle.asked.proofs.Branches.{question22-by}
use Rattle.asked.proofs.question22.Goals as goal

pub returns : goal.returns
returns c = question22-by _ _ _ c.requires (cc)
