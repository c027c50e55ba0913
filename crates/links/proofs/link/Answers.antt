-- `links::link` meets its contract; the loop's invariant is that the segments from j on are in order and linked.
use mathlib.Core.Path.{◌≡◌, refl, ◌∙◌}
use Prim.Native.Nat.{suc, ◌-◌}
use native.Mathlib.Omega.{arith}
use lib.ListN.{length-set}
use Rattle.net.specs.Net.{net_by}
use Rattle.links.proofs.Linking.{linking-start, linking-step, linking-end, parent-behind, parents-before}
use Rattle.links.proofs.link.Goals as goal

pub loop-j-init : goal.loop-j-init
loop-j-init c =
    let s = c.args.records.now in
    ((refl, refl), linking-start (net_by s.counts s.bytes.now) _ _ _ c.requires.0 c.requires.1 c.unlink.ensures)

pub returns-then-j-parent-clause-asked : goal.returns-then-j-parent-clause-asked
returns-then-j-parent-clause-asked c =
    let s = c.args.records.now in
    parent-behind s.counts s.bytes.now (omega arith) c.parent-parent.ensures c.if-j-parent.true

pub returns-then-j-parent-clause-lengths : goal.returns-then-j-parent-clause-lengths
returns-then-j-parent-clause-lengths c = (c.loop-j.invariant.0.0 ∙ c.unlink.ensures.same, c.loop-j.invariant.0.1)

pub loop-j-preserved : goal.loop-j-preserved
loop-j-preserved c =
    let s = c.args.records.now in
    let l = c.loop-j in
    let i = l.j - 1 in
    let e : l.j ≡ suc i = omega arith in
    let p = c.parent-parent.ensures in (
      (simp length-set l.invariant.0.0, simp length-set l.invariant.0.1),
      rw p (linking-step (net_by s.counts s.bytes.now) l.first l.next i (omega arith) (omega arith) (rw e at l.invariant.1)),
    )

pub returns : goal.returns
returns c =
    let e : c.loop-j.j ≡ 0 = omega arith in
    let k = rw e at c.loop-j.invariant.1 in
    record { asked = parents-before _ _ k; linked = λ t. linking-end _ _ _ k; lengths = (c.loop-j.invariant.0.0 ∙ c.unlink.ensures.same, c.loop-j.invariant.0.1) }
