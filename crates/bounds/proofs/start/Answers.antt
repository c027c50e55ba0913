-- `bounds::start` meets its contract: the loop knows that the positions passed have their first index.
use Rattle.std.proofs.Common.{arith}
use Rattle.lattice.specs.SideOf.{side_of}
use Rattle.net.specs.Net.{net_by}
use Rattle.net.specs.Order.{driving_by}
use Rattle.net.proofs.Order.{numbering}
use Rattle.net.proofs.Questions.{ordered}
use Rattle.bounds.proofs.Starting.{starting-end}
use Rattle.bounds.proofs.start.Goals as goal

pub returns : goal.returns
returns c =
    let job = c.args.arranged.now.job in
    starting-end (side_of c.args.side) (driving_by job.counts job.bytes.now) c.loop-t.x c.loop-t.t
    (λ q h. job.checked.ranges _ ((numbering (net_by job.counts job.bytes.now) (ordered job.checked).sites (ordered job.checked).rising).inside q h)) c.loop-t.invariant (omega (arith, c.places-t-end.ensures))
