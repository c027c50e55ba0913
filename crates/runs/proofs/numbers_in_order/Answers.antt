-- `runs::numbers_in_order` meets its contract: each number is asked whether it is its place.
use Rattle.std.proofs.Common.{rules}
use borrow.Author.Tests.{tests}
use Rattle.runs.proofs.All.{every-below}
use Rattle.runs.proofs.numbers_in_order.Goals as goal

pub returns : goal.returns
returns c = every-below c.all.ensures.ran (λ k q t. search (rules, tests)) (λ k q t. search (rules, tests))
