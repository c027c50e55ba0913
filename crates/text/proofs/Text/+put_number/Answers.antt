-- `Text::put_number` meets its contract: all digits but the last, then the last.
use native.Mathlib.Omega.{arith}
use Rattle.text.specs.Writing.{Puts}
use Rattle.text.specs.Spelling.{spelling}
use Rattle.text.proofs.Spelling.{spelling-small, spelling-more, spelling-long}
use Rattle.text.proofs.Writing.{puts_then}
use Rattle.text.proofs.Text.+put_number.Goals as goal
use Rattle.text.proofs.Text.+put_number.Goals.{then-more, else-more}

pub returns : goal.returns
returns t c =
    let n = c.args.number in
    let e = c.put_byte.ensures in
    let p : Puts c.args.self.now (spelling n) c.put_byte.new.self = elim c.if-more.branch [
      | then-more w ↦ rw (spelling-more n (omega arith)) (puts_then w.put_number.ensures.puts (rw w.self-is at e))
      | else-more w ↦ rw (spelling-small n (omega arith)) (rw w.self-is at e)
    ] in
    record { puts = p; upper_bound = omega (arith, p.wrote.position, spelling-long 19 n (omega (arith, c.ranges.number))) }
