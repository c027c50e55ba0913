-- `weight_records::unnamed_zero` meets its contract: each record is asked for its zero bytes.
use Rattle.std.proofs.Common.{rules}
use borrow.Author.Tests.{tests}
use Rattle.runs.proofs.All.{every-below}
use Rattle.weight_records.proofs.unnamed_zero.Goals as goal

pub returns : goal.returns
returns c = every-below c.all.ensures.ran (λ k q t. search (rules, tests)) (λ k q t. search (rules, tests))
