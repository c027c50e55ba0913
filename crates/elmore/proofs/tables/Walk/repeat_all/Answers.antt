-- `Walk::repeat_all` meets its contract; the loop's invariant is that the repeaters passed are in the table, and their charges in the sum.
use mathlib.Core.Path.{◌≡◌}
use Prim.Native.Nat.{suc, ◌-◌}
use native.Mathlib.Omega.{arith}
use Rattle.parts.proofs.Tallies.{charged-most}
use Rattle.elmore.proofs.Filling.{repeated-all, charge-room, repeated-step, child-parted, child-tally}
use Rattle.elmore.proofs.tables.Walk.repeat_all.Goals as goal

pub branches-requires-clause-parted : goal.branches-requires-clause-parted
branches-requires-clause-parted c =
    let l = c.loop-r in
    let e : l.r ≡ suc (l.r - 1) = omega arith in
    let p = rw e at l.invariant.repeated in
    rw c.site.ensures.0 (child-parted l.self.net.now.ready l.self.linked (l.r - 1) (omega (arith, p.within)) p.parts)

pub repeated-one-requires-clause-tally : goal.repeated-one-requires-clause-tally
repeated-one-requires-clause-tally c =
    let l = c.loop-r in
    let e : l.r ≡ suc (l.r - 1) = omega arith in
    let p = rw e at l.invariant.repeated in
    child-tally l.self.net.now.ready l.self.linked (l.r - 1) (omega (arith, p.within)) _ (rw c.site.ensures.0 at c.branches.ensures)

pub add-all-requires : goal.add-all-requires
add-all-requires c =
    let l = c.loop-r in
    let e : l.r ≡ suc (l.r - 1) = omega arith in
    charge-room _ _ (l.r - 1) _ _ (rw e at l.invariant.repeated) _ c.repeated-one.ensures (charged-most l.self.net.now.ready)

pub loop-r-preserved : goal.loop-r-preserved
loop-r-preserved c =
    let l = c.loop-r in
    let e : l.r ≡ suc (l.r - 1) = omega arith in
    let p = rw e at l.invariant.repeated in
    record {
      net = l.invariant.net;
      repeated = repeated-step _ _ (l.r - 1) _ _ p _ c.repeated-one.ensures (omega (arith, p.within, l.self.net.now.job.checked.few_repeaters)) _ c.add-all.ensures.0;
    }

pub returns-clause-charge : goal.returns-clause-charge
returns-clause-charge c = let l = c.loop-r in record { all = repeated-all _ _ l.r _ _ (omega arith) l.invariant.repeated }
