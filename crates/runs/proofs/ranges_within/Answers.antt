-- `runs::ranges_within` meets its contract: each range is asked whether it is one of its table.
use Rattle.std.proofs.Common.{rules}
use borrow.Author.Tests.{tests}
use Rattle.runs.proofs.All.{every-below}
use Rattle.runs.proofs.ranges_within.Goals as goal

pub returns : goal.returns
returns c = every-below c.all.ensures.ran (λ k q t. search (rules, tests)) (λ k q t. search (rules, tests))
