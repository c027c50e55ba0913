-- `runs::bytes_rise` meets its contract: each byte but the last is asked whether the next is above it.
use Rattle.std.proofs.Common.{rules}
use borrow.Author.Tests.{tests}
use Rattle.runs.proofs.All.{every-below}
use Rattle.runs.proofs.bytes_rise.Goals as goal

pub returns : goal.returns
returns c = rw (← c.saturating_sub-pairs.ensures) (every-below c.all.ensures.ran (λ k q t. search (rules, tests)) (λ k q t. search (rules, tests)))
