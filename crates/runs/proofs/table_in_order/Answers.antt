-- `runs::table_in_order` meets its contract: each row is asked whether it is in order with the next.
use Rattle.std.proofs.Common.{rules}
use borrow.Author.Tests.{tests}
use Rattle.runs.proofs.All.{every-below}
use Rattle.runs.proofs.table_in_order.Goals as goal

pub returns : goal.returns
returns c = rw (← c.saturating_sub-pairs.ensures) (every-below c.all.ensures.ran (λ k q t. search (rules, tests)) (λ k q t. search (rules, tests)))
