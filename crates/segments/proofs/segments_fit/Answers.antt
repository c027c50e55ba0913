-- `segments::segments_fit` meets its contract: the fields of each segment before k are in range, and `ends` says whether each has a sink or branches.
use mathlib.Core.Path.{◌≡◌, refl, sym, ap, ap₂}
use mathlib.Core.Bool.{Bool, true, false, not, ◌&&◌, false≢true}
use Prim.Native.Nat.{ℕ, ◌+◌}
use native.Mathlib.Numerals.{add-one}
use native.Mathlib.Omega.{arith}
use Rattle.lattice.specs.Lists.{every}
use Rattle.lattice.proofs.Every.{begins, goes_on, stops}
use Rattle.segments.specs.Tests.{segment_fits, all_fit}
use Rattle.segments.proofs.Own.{own-none, own_on}
use Rattle.segments.proofs.segments_fit.Goals as goal

-- all tests of the places before k, asked to the end whatever they say
none-asked : (f : ℕ → Bool) → true ≡ every 0 f
unfolding every
none-asked f = refl

one-asked : (f : ℕ → Bool) (k : ℕ) {t e : Bool} → t ≡ f k → e ≡ every k f → t && e ≡ every (k + 1) f
unfolding every
one-asked f k d e = rw (add-one k) (ap₂ ◌&&◌ d e)

pub loop-k-init : goal.loop-k-init
loop-k-init c = record { fields = begins _ _; ends = none-asked _; own = own-none (omega arith) }

pub returns-then-not-passed : goal.returns-then-not-passed
returns-then-not-passed c =
    let r = c.args.run.now in
    let misfit : segment_fits r.bytes.now c.args.counts r.start c.loop-k.k ≡ false = cc in
    let none : false ≡ all_fit r.bytes.now c.args.counts r.start r.count = stops c.loop-k.invariant.fields (omega arith) refl (ap not misfit) in
    record { fields = none; ends = λ t. absurd (false≢true t); number = rw (sym none); weights = λ t. absurd (false≢true t) }

pub loop-k-preserved : goal.loop-k-preserved
loop-k-preserved c =
    let i = c.loop-k.invariant in
    let r = c.args.run.now in
    let fit : segment_fits r.bytes.now c.args.counts r.start c.loop-k.k ≡ true = cc in
    record { fields = goes_on i.fields (omega arith) refl (ap not fit); ends = one-asked _ _ (cc) i.ends; own = own_on i.own (omega arith) (cc) }
