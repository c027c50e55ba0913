-- `place::go_upstream` meets its contract: the loop has the positions passed.
use Rattle.std.proofs.Common.{arith}
use Rattle.net.specs.Order.{driving_by}
use Rattle.net.proofs.InOrder.{placed}
use Rattle.place.specs.Figures.{resistances}
use Rattle.place.proofs.Loads.{resistances-set}
use Rattle.place.proofs.Upstream.{before-step, onward-reads}
use Rattle.place.proofs.go_upstream.Goals as goal

pub loop-t-preserved : goal.loop-t-preserved
loop-t-preserved c =
    let l = c.loop-t in
    let job = c.args.places.now.arranged.job in
    let net = driving_by job.counts job.bytes.now in
    rw (resistances-set l.upstream l.t c.upstream_at.result) (before-step net (placed job.checked) _ (onward-reads net c.args.bounds.lower.now c.args.bounds.upper.now) (resistances l.upstream) l.t _ (omega arith) l.invariant c.upstream_at.ensures)
