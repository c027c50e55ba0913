-- `nodes::hanging` meets its contract: the seat says whether a repeater sits there.
use native.Mathlib.Omega.{arith}
use Rattle.parts.proofs.Seating.{seat-none}
use Rattle.parts.proofs.Tallies.{bare-hanging}
use Rattle.nodes.proofs.hanging.Goals as goal

pub repeated-requires-clause-r_lt_repeaters : goal.repeated-requires-clause-r_lt_repeaters
repeated-requires-clause-r_lt_repeaters c =
    let r = c.requires.seated.only c.args.i c.in-Some.r c.requires.i_lt_segments c.in-Some.is in
    omega (arith, r.0)

pub returns-in-None : goal.returns-in-None
returns-in-None c = bare-hanging c.args.net.now.ready c.args.i _ (seat-none _ c.requires.seated c.args.i c.in-None.is) c.requires.tally
