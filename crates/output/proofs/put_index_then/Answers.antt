-- `output::put_index_then` meets its contract: the index or `-`, and the word behind it.
use Rattle.text.specs.Writing.{Puts}
use Rattle.text.proofs.Writing.{puts_then}
use Rattle.output.specs.Printed.{index_text}
use Rattle.output.proofs.put_index_then.Goals as goal
use Rattle.output.proofs.put_index_then.Goals.{in-Some, in-None}

pub returns-clause-puts : goal.returns-clause-puts
unfolding index_text
returns-clause-puts c =
    let p : Puts c.args.text.now (index_text c.args.index) c.match-index.text = elim c.match-index.branch [
      | in-Some w ↦ rw (w.in-Some.is, w.text-is, ← w.from.ensures) w.put_number.ensures.puts
      | in-None w ↦ rw (w.in-None.is, w.text-is) w.put_byte.ensures
    ] in
    puts_then p c.put_bytes.ensures
