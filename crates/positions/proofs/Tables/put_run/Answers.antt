-- `Tables::put_run` meets its contract: the loop has the places passed, whatever the net.
use Rattle.std.proofs.Common.{◌≡◌, arith}
use Rattle.net.proofs.Questions.{ordered}
use Rattle.positions.proofs.Nodes.{run_step}
use Rattle.positions.proofs.Tables.put_run.Goals as goal

pub loop-p-preserved : goal.loop-p-preserved
loop-p-preserved c =
    let l = c.loop-p in
    rw (c.put.ensures.order, c.put.ensures.position) (run_step l.p l.self.order l.self.position (omega arith) (omega arith) l.invariant)

pub returns : goal.returns
returns c =
    let l = c.loop-p in
    let e : l.p ≡ c.args.end = omega (arith, c.requires.run.rise) in
    rw e at (l.invariant _ (ordered c.args.job.now.checked) c.requires.run c.requires.in_order)
