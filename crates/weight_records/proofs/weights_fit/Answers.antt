-- `weight_records::weights_fit` meets its contract: each record is asked for its segment and its number.
use Rattle.std.proofs.Common.{rules}
use borrow.Author.Tests.{tests}
use Rattle.runs.proofs.All.{every-below}
use Rattle.weight_records.proofs.weights_fit.Goals as goal

pub returns : goal.returns
returns c = every-below c.all.ensures.ran (λ k q t. search (rules, tests)) (λ k q t. search (rules, tests))
