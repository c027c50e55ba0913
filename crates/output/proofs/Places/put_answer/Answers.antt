-- `Places::put_answer` meets its contract: number and delay, then the places' lines.
use Rattle.text.proofs.Writing.{puts_then}
use Rattle.output.proofs.Lines.{answer-parts}
use Rattle.output.proofs.Places.put_answer.Goals as goal

pub returns-clause-puts : goal.returns-clause-puts
returns-clause-puts c =
    rw (← answer-parts _ _, ← c.delay.ensures)
    (puts_then c.put_bytes.ensures (puts_then c.put_number_then.ensures.puts c.put_lines.ensures.puts))
