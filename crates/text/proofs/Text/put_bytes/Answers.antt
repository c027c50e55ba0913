-- `Text::put_bytes` meets its contract: the bytes before the loop's are put.
use Rattle.std.proofs.lemmas.List.{take_more}
use Rattle.text.proofs.Writing.{puts_none, puts_then}
use Rattle.text.proofs.Text.put_bytes.Goals as goal

pub loop-byte-init : goal.loop-byte-init
loop-byte-init c = puts_none c.args.self.now

pub loop-byte-preserved : goal.loop-byte-preserved
loop-byte-preserved c =
    rw (take_more c.args.bytes.now c.loop-byte.byte-index 0 c.loop-byte-test.true) (puts_then c.loop-byte.invariant c.put_byte.ensures)
