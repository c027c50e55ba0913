-- `Walk::branch` and `Walk::branches` meet their contracts: each step is a lemma of `Walking` or `Passing`, and a child and a sibling have larger
-- numbers, so that each call and each turn of the loop has fewer segments left.
use Prim.Native.Nat.{◌+◌, ◌*◌, ◌-◌}
use Rattle.elmore.specs.Walks.{net_of, sizing_of}
use Rattle.elmore.proofs.Passing.{Passed}
use Rattle.elmore.proofs.tables.Walk.+branch_branches.Given as goal

abbrev pub decreases-branch : goal.decreases-branch
decreases-branch l = 2 * (l.self.now.net.now.job.counts.segments - l.i)

abbrev pub decreases-branches : goal.decreases-branches
decreases-branches l = 2 * (l.self.now.net.now.job.counts.segments - l.j) + 1

-- what is counted up over the siblings passed
abbrev pub invariant-branches-loop-i : goal.invariant-branches-loop-i
invariant-branches-loop-i l = Passed (net_of l.self) (sizing_of l.self) l.j l.i l.sum

abbrev pub decreases-branches-loop-i : goal.decreases-branches-loop-i
decreases-branches-loop-i l = l.self.net.now.job.counts.segments - l.i
