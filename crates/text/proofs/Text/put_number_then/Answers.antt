-- `Text::put_number_then` meets its contract: the word behind the number.
use Rattle.text.proofs.Writing.{puts_then}
use Rattle.text.proofs.Text.put_number_then.Goals as goal

pub returns-clause-puts : goal.returns-clause-puts
returns-clause-puts c = puts_then c.put_number.ensures.puts c.put_bytes.ensures
