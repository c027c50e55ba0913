-- The loop has the records of the places before p written.
use lib.ListN.{length}
use Rattle.reply.specs.Records.{of_place}
use Rattle.reply.proofs.Places.{Placing}
use Rattle.reply.proofs.Figures.put.Given as goal

abbrev pub invariant-loop-p : goal.invariant-loop-p
invariant-loop-p l =
    let of = of_place l.self.position.now in
    Placing l.initial.buffer (length l.self.bounds.lower.now) (of l.self.bounds.lower.now) (of l.self.bounds.upper.now) (of l.self.envelope.lower.now) (of l.self.envelope.upper.now) l.buffer l.p
