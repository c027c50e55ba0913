-- `kinds::count` meets its contract: what lies between the ends of two kinds is the run of one.
use Rattle.kinds.proofs.Ends.{counts-runs}
use Rattle.kinds.proofs.count.Goals as goal

pub returns : goal.returns
returns c = counts-runs c.requires.ends_of c.requires.kinds c.count_layer0.ensures
