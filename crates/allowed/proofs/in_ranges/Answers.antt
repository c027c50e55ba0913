-- `allowed::in_ranges` meets its contract: each place is asked for its range.
use Rattle.std.proofs.Common.{rules}
use borrow.Author.Tests.{tests}
use Rattle.runs.proofs.All.{every-below}
use Rattle.allowed.proofs.in_ranges.Goals as goal

pub returns : goal.returns
returns c = rw (← c.places.ensures) (every-below c.all.ensures.ran (λ k q t. search (rules, tests)) (λ k q t. search (rules, tests)))
