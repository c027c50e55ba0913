-- `operations::choose` meets its contract: the slice that prefer names, cut to its P bytes, is what the definition chooses.
use mathlib.Core.Path.{◌≡◌, refl, sym}
use mathlib.Core.Bool.{Bool, true, false}
use Prim.Native.Nat.{ℕ}
use native.Mathlib.Omega.{arith}
use lib.Seq.{length-take-le}
use Rattle.operations.proofs.Cases.{choose-neither, choose-first, choose-second}
use Rattle.operations.proofs.choose.Goals as goal

not-both : {b : Bool} → b ≡ true → b ≡ false → ⊥
not-both e f = let w : ◌≡◌ {A = ℕ} 0 1 = cc (e, f) in omega arith

pub slice_bounds-result-end : goal.slice_bounds-result-end
slice_bounds-result-end c =
    let f = rw c.in-Some-First.field-0-is at c.in-Some-First.ensures in
    sym (length-take-le c.in-Some-First.places c.args.x.now f.3)

pub slice_bounds-result-end-in-Some-Second : goal.slice_bounds-result-end-in-Some-Second
slice_bounds-result-end-in-Some-Second c =
    let f = rw c.in-Some-Second.field-0-is at c.in-Some-Second.ensures in
    sym (length-take-le c.in-Some-Second.places c.args.y.now f.3)

pub returns-in-Some-First : goal.returns-in-Some-First
returns-in-Some-First c =
    let f = rw c.in-Some-First.field-0-is at c.in-Some-First.ensures in
    let h = choose-first c.args.job.now c.args.x.now c.args.y.now c.in-Some-First.places f in
    record { answer = h.0; second = λ t. absurd (not-both t h.1); first = λ t. refl }

pub returns-in-Some-Second : goal.returns-in-Some-Second
returns-in-Some-Second c =
    let f = rw c.in-Some-Second.field-0-is at c.in-Some-Second.ensures in
    let h = choose-second c.args.job.now c.args.x.now c.args.y.now c.in-Some-Second.places f in
    record { answer = h.0; second = λ t. refl; first = λ t. absurd (not-both h.1 t) }

pub returns-in-None : goal.returns-in-None
returns-in-None c =
    let f = c.in-None.ensures in
    let h = choose-neither c.args.job.now c.args.x.now c.args.y.now f in
    record { answer = h.empty; second = λ t. absurd (not-both t h.not_second); first = λ t. refl }
