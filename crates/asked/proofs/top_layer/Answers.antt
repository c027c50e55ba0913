-- `asked::top_layer` meets its contract: layer 1 has what layer 0 has not.
use Rattle.asked.proofs.Regroup.{top-1, top-0}
use Rattle.asked.proofs.top_layer.Goals as goal

pub returns-then-counts : goal.returns-then-counts
returns-then-counts c = top-1 _ c.if-counts.true

pub returns-else-counts : goal.returns-else-counts
returns-else-counts c = top-0 _ c.if-counts.false
