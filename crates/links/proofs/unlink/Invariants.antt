-- `links::unlink` meets its contract; the loop's invariant is that the entries passed say that there is none.
use lib.ListN.{length}
use Rattle.links.specs.Links.{Unlinked}
use Rattle.links.proofs.unlink.Given as goal

abbrev pub invariant-loop-q : goal.invariant-loop-q
invariant-loop-q l = Unlinked l.n (length l.initial.first) l.first l.q
