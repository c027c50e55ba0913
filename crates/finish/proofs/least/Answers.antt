-- The search starts from the lower bound and covers all between the bounds.
use mathlib.Core.Path.{◌≡◌, sym, ◌∙◌}
use mathlib.Core.List.{List}
use Prim.Native.Nat.{ℕ}
use Rattle.std.proofs.Common.{rules}
use Rattle.net.specs.Driving.{Driving}
use Rattle.finish.specs.Parts.{LeastOf}
use Rattle.finish.proofs.Parts.{lower_long, between, searched}
use Rattle.finish.proofs.least.Goals as goal

pub copy_from_slice-requires : goal.copy_from_slice-requires
copy_from_slice-requires c = c.requires.for_places.0 ∙ sym (lower_long c.args.places.now.arranged.job.checked c.requires.bounded_by)

pub between-requires-clause-between : goal.between-requires-clause-between
between-requires-clause-between c = between c.args.places.now.arranged.job.checked c.requires.bounded_by

-- the same of what stands behind the references that were lent
behind : {net : Driving} {d : ℕ} {l w l' w' : List ℕ} → LeastOf net d l w → l' ≡ l → w' ≡ w → LeastOf net d l' w'
behind s e f = rw (e, f) s

pub returns : goal.returns
returns c =
    let k = c.args.places.now.arranged.job.checked in
    let s = searched k c.args.bounds.lower.now c.args.bounds.upper.now c.args.bounds.lower.now c.args.lean.now c.args.wide.now c.requires.bounded_by (lower_long k c.requires.bounded_by) c.between.ensures.taken in
    let lean = sym c.between.ensures.same_space.lean in
    let wide = sym c.between.ensures.same_space.wide in
    behind s (search rules) (search rules)
