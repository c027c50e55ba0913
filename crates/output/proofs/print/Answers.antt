-- `output::print` meets its contract: what is put at the start of a buffer is held by it.
use borrow.Author.Rules.{rules}
use Rattle.output.proofs.Lines.{wrote-holds, held}
use Rattle.output.proofs.print.Goals as goal

pub returns : goal.returns
returns c =
    let h = wrote-holds c.put_printed.ensures.puts.wrote (search rules) in
    record { text = h; within = held h }
