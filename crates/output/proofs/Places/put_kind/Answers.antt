-- `Places::put_kind` meets its contract: the lines of the places before the loop's are put.
use native.Mathlib.Omega.{arith}
use Rattle.text.proofs.Writing.{puts_none, puts_then}
use Rattle.output.proofs.Lines.{kind_lines-none, kind_lines_more}
use Rattle.output.proofs.Places.put_kind.Goals as goal

pub loop-i-init : goal.loop-i-init
loop-i-init c = record { puts = rw kind_lines-none (puts_none c.args.text.now); upper_bound = omega arith }

pub loop-i-preserved : goal.loop-i-preserved
loop-i-preserved c =
    let f = c.figures.ensures in
    let l = c.loop-i.invariant in
    record {
      puts = rw kind_lines_more (puts_then l.puts (rw (f.lower, f.upper, f.lean, f.wide) at c.put_line.ensures.puts));
      upper_bound = omega (arith, l.upper_bound, c.put_line.ensures.upper_bound);
    }
