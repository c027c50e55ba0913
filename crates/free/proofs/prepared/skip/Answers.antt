-- The loop has the positions passed.
use mathlib.Core.Path.{◌≡◌, ◌∙◌}
use native.Mathlib.Omega.{arith}
use lib.ListN.{length-set}
use lib.Seq.{get_or-set_same}
use borrow.Author.Tests.{lt-ltb, le-ltb}
use Rattle.net.specs.Job.{places_by}
use Rattle.free.proofs.Tables.{skips-none, skips-step}
use Rattle.free.proofs.prepared.skip.Goals as goal
use Rattle.free.proofs.prepared.skip.Goals.{then-bounds-t, else-bounds-t}

pub loop-t-init : goal.loop-t-init
loop-t-init c =
    record {
      skipped = skips-none _ _ _ (get_or-set_same c.args.skips.now 0 0 0 (omega arith));
      long = omega (arith, length-set c.args.skips.now 0 0);
    }

pub loop-t-preserved : goal.loop-t-preserved
loop-t-preserved c =
    let l = c.loop-t in
    record {
      skipped = skips-step c.args.bounds.lower.now c.args.bounds.upper.now l.skips l.t _ (omega arith) l.invariant.skipped
          (elim c.if-bounds-t.branch [ then-bounds-t w ↦ w.last-is ∙ rw (lt-ltb _ _ w.if-bounds-t.true) | else-bounds-t w ↦ w.last-is ∙ rw (le-ltb _ _ w.if-bounds-t.false) ]);
      long = length-set l.skips _ _ ∙ l.invariant.long;
    }

pub returns : goal.returns
returns c =
    let l = c.loop-t in
    let e : l.t ≡ places_by c.args.job.now.counts = omega arith in
    rw e at l.invariant.skipped
