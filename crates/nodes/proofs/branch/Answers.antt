-- `nodes::branch` meets its contract: a segment with what hangs at its far end is its branch.
use Rattle.parts.proofs.Tallies.{behind-room, behind-tally}
use Rattle.nodes.proofs.branch.Goals as goal

pub behind-requires : goal.behind-requires
behind-requires c = behind-room c.args.net.now.sized.ready c.args.i c.requires.i_lt_segments _ _ c.sized.ensures c.hanging-hangs.ensures

pub returns : goal.returns
returns c = behind-tally c.args.net.now.sized.ready c.args.i c.requires.i_lt_segments _ _ c.sized.ensures c.hanging-hangs.ensures _ c.behind.ensures
