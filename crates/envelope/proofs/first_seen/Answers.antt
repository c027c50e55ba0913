-- Each arm is the definition at its side.
use Rattle.envelope.proofs.first_seen.Goals as goal

pub returns-in-Below : goal.returns-in-Below
returns-in-Below c = rw c.in-Below.is c.min.ensures

pub returns-in-Above : goal.returns-in-Above
returns-in-Above c = rw c.in-Above.is c.max.ensures
