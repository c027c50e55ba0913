-- `numlejka::numlejka_choose` meets its contract: each number is the one of the slice that prefer names.
use Rattle.numlejka.proofs.Results.{choose-first, choose-second, choose-neither}
use Rattle.numlejka.proofs.numlejka_choose.Goals as goal

pub returns-in-Some-First : goal.returns-in-Some-First
returns-in-Some-First c = choose-first c.args.job.now c.args.x.now c.args.y.now _ (rw c.in-Some-First.field-0-is at c.in-Some-First.ensures)

pub returns-in-Some-Second : goal.returns-in-Some-Second
returns-in-Some-Second c = choose-second c.args.job.now c.args.x.now c.args.y.now _ (rw c.in-Some-Second.field-0-is at c.in-Some-Second.ensures)

pub returns-in-None : goal.returns-in-None
returns-in-None c = choose-neither c.args.job.now c.args.x.now c.args.y.now c.in-None.ensures
