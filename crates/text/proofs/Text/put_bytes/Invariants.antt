-- `Text::put_bytes` meets its contract: the bytes before the loop's are put.
use lib.ListN.{take}
use Rattle.text.specs.Writing.{Puts}
use Rattle.text.proofs.Text.put_bytes.Given as goal

abbrev pub invariant-loop-byte : goal.invariant-loop-byte
invariant-loop-byte l = Puts l.initial.self (take l.byte-index l.bytes) l.self
