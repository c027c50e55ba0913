-- `runs::within` meets its contract: the field of each record is asked whether it is in range.
use Rattle.std.proofs.Common.{rules}
use borrow.Author.Tests.{tests}
use Rattle.runs.proofs.All.{every-below}
use Rattle.runs.proofs.within.Goals as goal

pub returns : goal.returns
returns g c = every-below c.all.ensures.ran (λ k q t. search (rules, tests)) (λ k q t. search (rules, tests))
