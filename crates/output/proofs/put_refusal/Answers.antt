-- `output::put_refusal` meets its contract: a word and the number.
use Rattle.text.proofs.Writing.{puts_then}
use Rattle.output.proofs.Lines.{refused-parts}
use Rattle.output.proofs.put_refusal.Goals as goal

pub returns-clause-puts : goal.returns-clause-puts
returns-clause-puts c = rw (← refused-parts c.args.number) (puts_then c.put_bytes.ensures c.put_number_then.ensures.puts)
