-- `output::delay` meets its contract: eight bytes, the lowest first.
use native.Mathlib.Omega.{arith}
use borrow.Author.Rules.{rules}
use Rattle.output.proofs.Lines.{delay-bytes}
use Rattle.output.proofs.delay.Goals as goal

pub returns : goal.returns
returns c =
    let f = delay-bytes c.args.reply.now (search rules) in
    omega (arith, f, c.from_le_bytes.ensures)
