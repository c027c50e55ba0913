-- The loop has the records of the places before p written, and with the delay's they are a whole reply.
use mathlib.Core.Path.{◌≡◌, ap, ◌∙◌}
use native.Mathlib.Omega.{arith}
use lib.ListN.{length}
use lib.Seq.{sets}
use Rattle.net.specs.Answers.{little_endian}
use Rattle.reply.specs.Records.{of_place}
use Rattle.reply.proofs.Numbers.{as-bytes}
use Rattle.reply.proofs.Places.{placing-step, placing-end, whole}
use Rattle.reply.proofs.Figures.put.Goals as goal

pub loop-p-preserved : goal.loop-p-preserved
loop-p-preserved c =
    let l = c.loop-p in
    placing-step _ _ _ _ _ _ l.buffer l.p l.invariant _ _ (omega arith) c.place_record.ensures c.put-in-loop-p.ensures

pub returns : goal.returns
returns c =
    let f = c.args.self.now in
    let of = of_place f.position.now in
    let l = c.loop-p in
    let delay : c.put.new.buffer ≡ sets c.args.buffer.now 0 (little_endian 8 c.args.delay) = c.put.ensures ∙ ap (sets c.args.buffer.now 0) (c.to_le_bytes.ensures ∙ as-bytes c.args.delay) in
    placing-end _ _ _ _ _ _ l.buffer l.p l.invariant (omega arith)
    ∙ rw delay
    (whole c.args.buffer.now c.args.delay (length f.bounds.lower.now) (of f.bounds.lower.now) (of f.bounds.upper.now) (of f.envelope.lower.now) (of f.envelope.upper.now) (omega arith))
