-- The branch at a repeater's segment, which the facts of a job say is there, found by search over the segments.
use mathlib.Core.Path.{◌≡◌, sym, subst}
use mathlib.Core.Bool.{Bool}
use mathlib.Core.Logic.{∥∥₁_elim}
use mathlib.Core.List.{List}
use Prim.Native.Nat.{ℕ, suc, ◌<◌}
use lib.Dec.{T, T_prop, eqb, eqb→eq}
use borrow.Author.Tests.{eq-eqb}
use Rattle.lattice.specs.Lists.{some}
use Rattle.lattice.proofs.ListLaws.{some_at, at_some}
use Rattle.net.specs.declared.Counts.{Counts}
use Rattle.net.specs.Net.{net_by}
use Rattle.net.specs.Checked.{Checked}

pub branch-of : (c : Counts) (b : List ℕ) → Checked c b → (r : ℕ) → r < c.repeaters
    → (j : ℕ) × (j < c.segments) × ((net_by c b).parent j ≡ suc ((net_by c b).site r))
branch-of c b k r h =
    let hangs : ℕ → Bool = λ j. eqb ((net_by c b).parent j) (suc ((net_by c b).site r)) in
    let t : T (some c.segments hangs) = ∥∥₁_elim (k.branched r h) (T_prop _) (λ w. at_some c.segments hangs w.0 w.1 (subst T (sym (eq-eqb _ _ w.2)) tt)) in
    let s = some_at c.segments hangs t in
    (s.0, s.1, eqb→eq _ _ s.2)
