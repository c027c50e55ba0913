-- `segments::sites_branched` meets its contract: each repeater is asked whether its segment has branches.
use Rattle.std.proofs.Common.{rules}
use borrow.Author.Tests.{tests}
use Rattle.runs.proofs.All.{every-below}
use Rattle.segments.proofs.sites_branched.Goals as goal

pub returns : goal.returns
returns c = every-below c.all.ensures.ran (λ k q t. search (rules, tests)) (λ k q t. search (rules, tests))
