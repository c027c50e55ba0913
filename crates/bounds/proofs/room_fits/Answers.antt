-- `bounds::room_fits` meets its contract: the loop knows the product of the places passed, which is at most that of all.
use Rattle.std.proofs.Common.{arith}
use Rattle.bounds.proofs.Counting.{counting-start, counting-step, counting-over}
use Rattle.bounds.proofs.room_fits.Goals as goal

pub loop-p-init : goal.loop-p-init
loop-p-init c = counting-start _ _

pub returns-then-room-gt65536 : goal.returns-then-room-gt65536
returns-then-room-gt65536 c = counting-over c.loop-p.invariant (omega arith) c.choices-room.ensures.0 (omega arith)

pub loop-p-preserved : goal.loop-p-preserved
loop-p-preserved c = counting-step c.loop-p.invariant (omega arith) c.choices-room.ensures.0 (omega arith)
