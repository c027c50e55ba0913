-- `elmore::figures` meets its contract: what the drivers charge is the load figure.
use mathlib.Core.Path.{◌∙◌}
use native.Mathlib.Omega.{arith}
use Rattle.parts.proofs.Tallies.{figure-room, whole-figure}
use Rattle.elmore.proofs.figures.Goals as goal

pub add-requires : goal.add-requires
add-requires c = omega (arith, figure-room c.args.net.now.sized.ready _ _ c.behind_stages-chain.ensures.load c.whole-tree.ensures.charge.all)

pub returns : goal.returns
returns c =
    let chain = c.behind_stages-chain.ensures in
    record {
      delay = chain.delay;
      load = c.add.ensures.0 ∙ whole-figure c.args.net.now.sized.ready _ _ chain.load c.whole-tree.ensures.charge.all;
    }
