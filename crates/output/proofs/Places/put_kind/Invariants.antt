-- `Places::put_kind` meets its contract: the lines of the places before the loop's are put.
use Prim.Native.Nat.{◌+◌, ◌*◌, ◌≤◌}
use Rattle.text.specs.Writing.{Puts}
use Rattle.output.specs.Printed.{kind_lines}
use Rattle.output.specs.Lines.{figures_in}
use Rattle.output.proofs.Places.put_kind.Given as goal

abbrev pub invariant-loop-i : goal.invariant-loop-i
invariant-loop-i l = record {
  puts : Puts l.initial.text (kind_lines (figures_in l.self.finished l.self.reply.now) l.kind l.first l.i) l.text;
  upper_bound : l.text.at ≤ l.initial.text.at + 114 * l.i;
}
