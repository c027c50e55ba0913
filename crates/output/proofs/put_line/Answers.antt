-- `output::put_line` meets its contract: the line's parts one behind another.
use Rattle.text.proofs.Writing.{puts_then}
use Rattle.output.proofs.Lines.{line-parts}
use Rattle.output.proofs.put_line.Goals as goal

pub returns-clause-puts : goal.returns-clause-puts
returns-clause-puts c =
    let f = c.args.figures in
    rw (← line-parts c.args.kind.now c.args.number f.lower f.upper f.lean f.wide, ← c.from.ensures, ← c.from-2.ensures)
    (puts_then c.put_bytes.ensures (puts_then c.put_number_then.ensures.puts (puts_then c.put_number_then-2.ensures.puts (puts_then c.put_number_then-3.ensures.puts (puts_then c.put_index_then.ensures.puts c.put_index_then-2.ensures.puts)))))
