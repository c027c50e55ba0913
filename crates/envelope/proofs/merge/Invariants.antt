-- The loop has merged the places before i.
use Rattle.lattice.specs.Side.{extreme}
use Rattle.lattice.specs.SideOf.{side_of}
use Rattle.envelope.proofs.Merging.{Merging}
use Rattle.envelope.proofs.merge.Given as goal

abbrev pub invariant-loop-i : goal.invariant-loop-i
invariant-loop-i l = Merging (extreme (side_of l.side)) l.x l.initial.best l.i l.best
