-- `asked::question2` meets its contract: the runs of the kinds cover all records exactly where it passes.
use Rattle.kinds.proofs.Ends.{covers-all}
use Rattle.asked.proofs.question2.Goals as goal

pub returns : goal.returns
returns c = covers-all c.requires.ends_of c.requires.n_value
