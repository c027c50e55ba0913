-- `Walk::branch` and `Walk::branches` meet their contracts: each step is a lemma of `Walking` or `Passing`, and a child and a sibling have larger
-- numbers, so that each call and each turn of the loop has fewer segments left.
use Prim.Native.Nat.{ℕ, ◌<◌}
use native.Mathlib.Omega.{arith}
use Rattle.parts.specs.declared.Part.{Part}
use Rattle.parts.specs.Step.{RoomBehind, Behind}
use Rattle.parts.specs.Tally.{branch_of, Hanging}
use Rattle.parts.proofs.Tallies.{behind-room, behind-tally}
use Rattle.elmore.specs.declared.tables.Walk.{Walk}
use Rattle.elmore.specs.Tables.{segment_at}
use Rattle.elmore.specs.Walks.{net_of, sizing_of, CountedUp}
use Rattle.elmore.proofs.Passing.{passed-all, joined-room, joined-passed}
use Rattle.elmore.proofs.Walking.{parted-later, child-later, leaf-there, seat-there, bare-there}
use Rattle.elmore.proofs.tables.Walk.+branch_branches.Goals as goal

-- segment i with what hangs at its far end
room : (w : Walk) (i : ℕ) → i < w.net.now.job.counts.segments → (u : Part) → Hanging (net_of w) (sizing_of w) i u → RoomBehind (segment_at w.segments.now i) u
room w i h u v = behind-room w.net.now.ready i h _ u (w.sized.held i h) v

whole : (w : Walk) (i : ℕ) → i < w.net.now.job.counts.segments → (u : Part) → Hanging (net_of w) (sizing_of w) i u → (r : Part)
    → Behind (segment_at w.segments.now i) u r → CountedUp w branch_of i r
whole w i h u v = behind-tally w.net.now.ready i h _ u (w.sized.held i h) v

pub branch-behind-requires : goal.branch-behind-requires
branch-behind-requires t c = let w = c.args.self.now in room w _ c.requires.i_lt_segments _ (leaf-there w _ c.requires.i_lt_segments (omega arith))

pub branch-returns-then-child-self : goal.branch-returns-then-child-self
branch-returns-then-child-self t c =
    let w = c.args.self.now in
    whole w _ c.requires.i_lt_segments _ (leaf-there w _ c.requires.i_lt_segments (omega arith)) _ c.behind.ensures

-- where a repeater has its seat
pub branch-bounds-self-from : goal.branch-bounds-self-from
branch-bounds-self-from t c =
    let w = c.args.self.now in
    omega (arith, w.seated.only _ c.in-Some.r c.requires.i_lt_segments c.in-Some.is, w.net.now.job.checked.few_repeaters, c.from.ensures)

pub branch-behind-requires-in-Some : goal.branch-behind-requires-in-Some
branch-behind-requires-in-Some t c =
    let w = c.args.self.now in
    rw c.from.ensures (room w _ c.requires.i_lt_segments _ (seat-there w _ c.requires.i_lt_segments c.in-Some.r c.in-Some.is c.requires.parted))

pub branch-returns-in-Some : goal.branch-returns-in-Some
branch-returns-in-Some t c =
    let w = c.args.self.now in
    let b = rw c.from.ensures at c.behind-in-Some.ensures in
    whole w _ c.requires.i_lt_segments _ (seat-there w _ c.requires.i_lt_segments c.in-Some.r c.in-Some.is c.requires.parted) _ b

-- where none has
pub branch-branches-requires : goal.branch-branches-requires
branch-branches-requires t c =
    let k = child-later c.args.self.now _ c.requires.i_lt_segments in
    (omega (arith, k.0, k.1), (parted-later (omega (arith, k.0)) c.requires.parted, k.1))

pub branch-behind-requires-in-None : goal.branch-behind-requires-in-None
branch-behind-requires-in-None t c =
    let w = c.args.self.now in
    room w _ c.requires.i_lt_segments _ (bare-there w _ c.requires.i_lt_segments c.in-None.is _ c.branches.ensures)

pub branch-returns-in-None : goal.branch-returns-in-None
branch-returns-in-None t c =
    let w = c.args.self.now in
    whole w _ c.requires.i_lt_segments _ (bare-there w _ c.requires.i_lt_segments c.in-None.is _ c.branches.ensures) _ c.behind-in-None.ensures

pub branches-add-sum-requires : goal.branches-add-sum-requires
branches-add-sum-requires t c =
    let w = c.args.self.now in
    let i = c.loop-i.i in
    joined-room w.net.now.ready c.args.j i _ (omega arith) (w.linked.nexts i (omega arith)) _ _ c.loop-i.invariant c.branch-self.ensures

pub branches-loop-i-preserved : goal.branches-loop-i-preserved
branches-loop-i-preserved t c =
    let w = c.args.self.now in
    let i = c.loop-i.i in
    joined-passed w.net.now.ready c.args.j i _ (omega arith) (w.linked.nexts i (omega arith)) _ _ c.loop-i.invariant c.branch-self.ensures _ c.add-sum.ensures

pub branches-returns : goal.branches-returns
branches-returns t c = passed-all c.args.j c.loop-i.i (omega arith) _ c.loop-i.invariant
