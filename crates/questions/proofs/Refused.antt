-- What `check` says of a job that it refuses: of questions 1 and 2, and of any.
use mathlib.Core.Path.{◌≡◌, ◌∙◌, refl, sym}
use mathlib.Core.Bool.{Bool, true, false, not}
use mathlib.Core.List.{List}
use Prim.Native.Nat.{ℕ, ◌%◌, ◌≤◌}
use native.Mathlib.Omega.{arith}
use borrow.Author.Tests.{not-true, not-false}
use lib.Dec.{ltb, eqb, ltb→lt}
use lib.ListN.{length}
use Rattle.std.specs.Prelude.{Err}
use Rattle.lattice.proofs.ListLaws.{and_T}
use Rattle.net.specs.Job.{records}
use Rattle.net.specs.Questions.{question1, question2, refusal}
use Rattle.net.proofs.Records.{records-fill}
use Rattle.refusal.specs.Numbers.{number_of}
use Rattle.questions.specs.declared.Failed.{Failed}
use Rattle.questions.specs.Check.{CheckOf, questions_from1}
use Rattle.questions.proofs.Numbers.{yes, last, refused-1}

-- What question 1 gives: there is a record.
pub some-record : (b : List ℕ) {r : Bool} → r ≡ question1 b → not r ≡ false → 1 ≤ records b
unfolding question1
some-record b {r} e t =
    let y : question1 b ≡ true = sym e ∙ not-false r t in
    let a = and_T (ltb 0 (length b)) (eqb (◌%◌ (length b) 16) 0) (rw y tt) in
    omega (arith, ltb→lt 0 (length b) a.0, records-fill b y)

module _ {b first next weights : List ℕ} where
  -- the number is the first question's, and the records are counted
  pub check-early : (f : Failed) → number_of f.refusal ≡ refusal b → f.records ≡ records b → CheckOf b (Err f) first next weights
  check-early f n e = record { number = n; records = e; filled = λ q. omega (arith, e, records-fill b q); passed = tt }

  -- p and q are the answers to questions 1 and 2
  pub refused-2 : {p q : Bool} → p ≡ question1 b → not p ≡ false → q ≡ question2 b
      → (f : Failed) → (number_of f.refusal ≡ 2) × (f.records ≡ records b) → not q ≡ true → CheckOf b (Err f) first next weights
  unfolding questions_from1
  refused-2 {p} {q} one t two f e u = check-early f (refused-1 b f.refusal (yes 0 _ one (rw (not-false p t) refl) (last 2 two (rw (not-true q u) e.0)))) e.1
