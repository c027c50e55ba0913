-- `asked::question3` meets its contract: the code is the definition, layer by layer.
use mathlib.Core.Path.{refl}
use Rattle.asked.proofs.Regroup.{question3-by}
use Rattle.asked.proofs.question3.Goals as goal

pub returns : goal.returns
returns c = question3-by _ _ refl
