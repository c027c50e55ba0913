-- It ends in one of the three ways of `Keeping`.
use native.Mathlib.Omega.{arith}
use Rattle.std.proofs.lemmas.Bool.Decides.{nat_tests}
use Rattle.envelope.proofs.Keeping.{keep-less, keep-tie, keep-more}
use Rattle.envelope.proofs.Kept.keep.Goals as goal

pub returns-then-lt-clause-taken : goal.returns-then-lt-clause-taken
returns-then-lt-clause-taken c =
    let k = c.args.self.now in
    rw (c.copy_from_slice.ensures.after, c.copy_from_slice-then-lt.ensures.after)
    (keep-less c.args.x.now c.args.d.0 k.least.0 k.lean.now k.wide.now (grind (arith, nat_tests)))

pub returns-then-eq-clause-taken : goal.returns-then-eq-clause-taken
returns-then-eq-clause-taken c =
    let k = c.args.self.now in
    rw (c.merge.ensures, c.merge-then-eq.ensures)
    (keep-tie c.args.x.now c.args.d.0 k.least.0 k.lean.now k.wide.now (grind (arith, nat_tests)) (grind (arith, nat_tests)))

pub returns-else-eq-clause-taken : goal.returns-else-eq-clause-taken
returns-else-eq-clause-taken c =
    let k = c.args.self.now in
    keep-more c.args.x.now c.args.d.0 k.least.0 k.lean.now k.wide.now (grind (arith, nat_tests)) (λ e. grind (arith, nat_tests))
