-- `Places::put_lines` meets its contract: the stages' lines, then the segments', then the repeaters'.
use Rattle.text.proofs.Writing.{puts_then}
use Rattle.output.specs.Printed.{place_lines}
use Rattle.output.proofs.Places.put_lines.Goals as goal

pub returns-clause-puts : goal.returns-clause-puts
unfolding place_lines
returns-clause-puts c = puts_then (puts_then c.put_kind.ensures.puts c.put_kind-2.ensures.puts) c.put_kind-3.ensures.puts
