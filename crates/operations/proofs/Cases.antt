-- The operations by cases: each way through the code is what the definitions answer.
use mathlib.Core.Path.{◌≡◌, refl, sym, ap, subst, ◌∙◌}
use mathlib.Core.Bool.{Bool, true, false, cond, ◌&&◌}
use mathlib.Core.List.{List, [], ◌∷◌, ◌++◌}
use Prim.Native.Nat.{ℕ, ◌≤◌, ◌<◌}
use native.Mathlib.Omega.{arith}
use borrow.Author.Tests.{lt-ltb, le-ltb, le-leb, lt-leb, ne_eqb}
use lib.Dec.{lit≤}
use lib.ListN.{take}
use Rattle.std.specs.Prelude.{Some, None, Result, Ok, Err}
use Rattle.std.specs.Result.{result_ok}
use Rattle.lattice.specs.Space.{Allowed}
use Rattle.net.specs.declared.Counts.{Counts}
use Rattle.net.specs.Net.{Net, places, net_by, net_of}
use Rattle.net.specs.Delay.{delay, load_figure}
use Rattle.net.specs.Sizings.{allowed}
use Rattle.net.specs.Checked.{Checked}
use Rattle.net.specs.Questions.{ask, first_no, refusal}
use Rattle.net.specs.Answers.{question15, question16, question17, sizing_in, measure_number, measured, refine_number, refined, choose_number, first_chosen, chosen}
use Rattle.net.proofs.Answers.{Numbered, ranges-allowed, first_no-pass, first_no-stop, first_no-no, first_no-yes, job-passes, job-fails, sizing_questions, measured-refused, measured-answered, refined-refused, refined-answered, chosen-refused}
use Rattle.net.proofs.Reading.{delay-take, load_figure-take}
use Rattle.net.proofs.Questions.{ordered}
use Rattle.allowed.specs.Number.{sizing_number}
use Rattle.allowed.proofs.Numbers.{number-ranges}
use Rattle.best.specs.declared.EndsAndDelay.{EndsAndDelay}
use Rattle.refusal.specs.declared.Refusal.{Refusal as Question}
use Rattle.refusal.specs.Numbers.{number_of}
use Rattle.refusal.proofs.Positive.{number-positive}
use Rattle.stages.specs.declared.DelayAndLoad.{DelayAndLoad}
use Rattle.operations.specs.declared.Preference.TheVariants.{First, Second}
use Rattle.best.specs.Reached.{ReachedAt, ReachedBy}
use Rattle.operations.specs.Outcomes.{measured_by, refined_by, Preferred, from_second}

-- the sizing in a buffer that passes questions 15 and 16 is allowed
pub sizing-allowed : (net : Net) (x : List ℕ) → sizing_number net x ≡ 0 → Allowed (allowed net) (sizing_in net x)
sizing-allowed net x e = ranges-allowed net x (number-ranges net x e)

-- a question's number is not 0
nonzero : (r : Question) → number_of r ≡ 0 → ⊥
nonzero r e = let h = number-positive r in omega arith

-- what a result was, by the option that `ok` makes of it
pub was_ok : {A E : Type 0} (r : Result A E) (a : A) → Some a ≡ result_ok r → r ≡ Ok a
was_ok (Ok x) a e = cc
was_ok (Err q) a e = absurd (some-none a e)
  where
    some-none : {A : Type 0} (a : A) → Some a ≡ None → ⊥
    some-none a e = cc

pub was_err : {A E : Type 0} (r : Result A E) → None ≡ result_ok r → (q : E) × (r ≡ Err q)
was_err (Ok x) e = absurd (none-some x e)
  where
    none-some : {A : Type 0} (a : A) → None ≡ Some a → ⊥
    none-some a e = cc
was_err (Err q) e = (q, refl)

-- what `require` tells, by its answer
pub required-passed : (b : Bool) (r : Question) → 0 ≡ cond b 0 (number_of r) → b ≡ true
required-passed true r e = refl
required-passed false r e = absurd (nonzero r (sym e))

pub required-failed : (b : Bool) (q r : Question) → number_of q ≡ cond b 0 (number_of r) → (b ≡ false) × (number_of q ≡ number_of r)
required-failed true q r e = absurd (nonzero q e)
required-failed false q r e = (refl, e)

module _ (job x : List ℕ) where
  -- a job that is refused
  pub measure-job : (r : Question) → number_of r ≡ refusal job → measured_by (Err r) ≡ measured job x
  unfolding measure_number
  measure-job r e = sym (measured-refused job x (number_of r) (job-fails job _ (λ f. nonzero r (e ∙ f)) ∙ sym e) (nonzero r))

  pub refine-job : (p : ℕ) (r : Question) → number_of r ≡ refusal job → refined_by (Err r) ≡ refined job x p
  unfolding refine_number
  refine-job p r e = sym (refined-refused job x p (number_of r) (job-fails job _ (λ f. nonzero r (e ∙ f)) ∙ sym e) (nonzero r))

  -- a job that passes
  module _ {c : Counts} (k : Checked c job) (passes : refusal job ≡ 0) where
    -- the counts that the check found are the job's
    net-is : net_by c job ≡ net_of job
    net-is = ap (λ d. net_by d job) k.counted

    number_is : measure_number job x ≡ sizing_number (net_by c job) x
    unfolding measure_number sizing_number
    number_is = job-passes job _ passes ∙ ap (λ n. sizing_number n x) (sym net-is)

    pub measure-sizing : (r : Question) → number_of r ≡ sizing_number (net_by c job) x → measured_by (Err r) ≡ measured job x
    measure-sizing r e = sym (measured-refused job x (number_of r) (number_is ∙ sym e) (nonzero r))

    -- the figures of the whole buffer are those of its sizing
    delay-is : delay (net_by c job) x ≡ delay (net_of job) (sizing_in (net_of job) x)
    delay-is = sym (delay-take (net_by c job) (ordered k) x) ∙ ap (λ n. delay n (sizing_in n x)) net-is

    load_is : load_figure (net_by c job) x ≡ load_figure (net_of job) (sizing_in (net_of job) x)
    load_is = sym (load_figure-take (net_by c job) x) ∙ ap (λ n. load_figure n (sizing_in n x)) net-is

    pub measure-answer : (r : DelayAndLoad) → sizing_number (net_by c job) x ≡ 0 → r.delay.0 ≡ delay (net_by c job) x → r.load.0 ≡ load_figure (net_by c job) x
        → measured_by (Ok r) ≡ measured job x
    measure-answer r e f g = rw (f ∙ delay-is, g ∙ load_is) (sym (measured-answered job x (number_is ∙ e)))

    -- refine: its first two questions are a sizing's
    refine-number : (p : ℕ) → refine_number job x p ≡ first_no (sizing_questions job x ++ ask 17 (question17 (net_of job) p) ∷ [])
    unfolding refine_number
    refine-number p = job-passes job _ passes

    sizing-is : first_no (sizing_questions job x) ≡ sizing_number (net_by c job) x
    unfolding sizing_number
    sizing-is = ap (λ n. sizing_number n x) (sym net-is)

    pub refine-sizing : (p : ℕ) (r : Question) → number_of r ≡ sizing_number (net_by c job) x → refined_by (Err r) ≡ refined job x p
    refine-sizing p r e =
        sym (refined-refused job x p (number_of r)
        (refine-number p ∙ first_no-stop (sizing_questions job x) _ (λ f. nonzero r (e ∙ sym sizing-is ∙ f)) ∙ sizing-is ∙ sym e) (nonzero r))

    asked-17 : (p : ℕ) → sizing_number (net_by c job) x ≡ 0 → refine_number job x p ≡ first_no (ask 17 (question17 (net_of job) p) ∷ [])
    unfolding Numbered
    asked-17 p e = refine-number p ∙ first_no-pass (sizing_questions job x) _ (lit≤ tt, (lit≤ tt, tt)) (sizing-is ∙ e)

    pub refine-place : (p : ℕ) (r : Question) → number_of r ≡ 17 → sizing_number (net_by c job) x ≡ 0 → places (net_by c job) ≤ p → refined_by (Err r) ≡ refined job x p
    refine-place p r n e h =
        rw n (sym (refined-refused job x p 17 (asked-17 p e ∙ first_no-no 17 [] _ (le-ltb p (places (net_of job)) (subst (λ n. places n ≤ p) net-is h))) (λ z. omega arith)))

    pub refine-answer : (p : ℕ) (r : EndsAndDelay) → sizing_number (net_by c job) x ≡ 0 → p < places (net_by c job) → ReachedBy c job (sizing_in (net_by c job) x) p r
        → refined_by (Ok r) ≡ refined job x p
    unfolding first_no
    refine-answer p r e h f =
        let t : ReachedAt (allowed (net_of job)) (delay (net_of job)) (sizing_in (net_of job) x) p r = subst (λ n. ReachedAt (allowed n) (delay n) (sizing_in n x) p r) net-is f in
        rw (t.smallest, t.largest, t.reached)
        (sym (refined-answered job x p (asked-17 p e ∙ first_no-yes 17 [] _ (lt-ltb p (places (net_of job)) (subst (λ n. p < places n) net-is h)))))

-- choose: both sizings pass, or it refuses
first-fails : (a b c d : Bool) → (◌≡◌ {A = ℕ} (cond a (cond b 0 16) 15) 0 → ⊥) → ◌≡◌ {A = ℕ} (cond (a && c) (cond (b && d) 0 16) 15) 0 → ⊥
first-fails true true c d z e = z refl
first-fails true false true d z e = omega arith
first-fails true false false d z e = omega arith
first-fails false b c d z e = omega arith

second-fails : (a b c d : Bool) → (◌≡◌ {A = ℕ} (cond c (cond d 0 16) 15) 0 → ⊥) → ◌≡◌ {A = ℕ} (cond (a && c) (cond (b && d) 0 16) 15) 0 → ⊥
second-fails true true c d z e = z e
second-fails true false true d z e = omega arith
second-fails true false false d z e = omega arith
second-fails false b c d z e = omega arith

both-pass : (a b c d : Bool) → ◌≡◌ {A = ℕ} (cond a (cond b 0 16) 15) 0 → ◌≡◌ {A = ℕ} (cond c (cond d 0 16) 15) 0 → ◌≡◌ {A = ℕ} (cond (a && c) (cond (b && d) 0 16) 15) 0
both-pass true true c d e f = f
both-pass true false c d e f = absurd (omega arith)
both-pass false b c d e f = absurd (omega arith)

module _ (job x y : List ℕ) where
  -- what a refusal hands back
  pub record Nothing (r : List ℕ) : Type 0 where
    pub empty : r ≡ chosen job x y
    pub not_second : from_second job x y ≡ false

  pub choose-neither : (choose_number job x y ≡ 0 → ⊥) → Nothing []
  unfolding from_second
  choose-neither z = record { empty = sym (chosen-refused job x y z); not_second = rw (ne_eqb (choose_number job x y) 0 z) }

  -- what an answer hands back: from the first slice, or from the second
  pub choose-first : (p : ℕ) → Preferred job x y (Some (First p)) → (take p x ≡ chosen job x y) × (from_second job x y ≡ false)
  unfolding chosen from_second
  choose-first p f = rw (f.0, f.1, f.2) (refl, refl)

  pub choose-second : (p : ℕ) → Preferred job x y (Some (Second p)) → (take p y ≡ chosen job x y) × (from_second job x y ≡ true)
  unfolding chosen from_second
  choose-second p f = rw (f.0, f.1, f.2) (refl, refl)

  pub prefer-job : (r : Question) → number_of r ≡ refusal job → Preferred job x y None
  unfolding choose_number
  prefer-job r e f = nonzero r (e ∙ sym (job-fails job _ (λ g. nonzero r (e ∙ g))) ∙ f)

  module _ {c : Counts} (k : Checked c job) (passes : refusal job ≡ 0) where
    choose-is : choose_number job x y
        ≡ first_no (ask 15 (question15 (net_by c job) x && question15 (net_by c job) y) ∷ ask 16 (question16 (net_by c job) x && question16 (net_by c job) y) ∷ [])
    unfolding choose_number
    choose-is = job-passes job _ passes ∙ ap (λ n. first_no (ask 15 (question15 n x && question15 n y) ∷ ask 16 (question16 n x && question16 n y) ∷ [])) (sym (net-is job x k passes))

    pub prefer-first-no : (r : Question) → number_of r ≡ sizing_number (net_by c job) x → Preferred job x y None
    unfolding sizing_number first_no
    prefer-first-no r e f =
        first-fails (question15 (net_by c job) x) (question16 (net_by c job) x) (question15 (net_by c job) y) (question16 (net_by c job) y)
        (λ g. nonzero r (e ∙ g)) (sym choose-is ∙ f)

    pub prefer-second-no : (r : Question) → number_of r ≡ sizing_number (net_by c job) y → Preferred job x y None
    unfolding sizing_number first_no
    prefer-second-no r e f =
        second-fails (question15 (net_by c job) x) (question16 (net_by c job) x) (question15 (net_by c job) y) (question16 (net_by c job) y)
        (λ g. nonzero r (e ∙ g)) (sym choose-is ∙ f)

    places_is : places (net_by c job) ≡ places (net_of job)
    places_is = ap places (net-is job x k passes)

    module _ (ex : sizing_number (net_by c job) x ≡ 0) (ey : sizing_number (net_by c job) y ≡ 0) (dx dy : ℕ) (fx : dx ≡ delay (net_by c job) x) (fy : dy ≡ delay (net_by c job) y) where
      number-0 : choose_number job x y ≡ 0
      unfolding sizing_number first_no
      number-0 = choose-is ∙ both-pass (question15 (net_by c job) x) (question16 (net_by c job) x) (question15 (net_by c job) y) (question16 (net_by c job) y) ex ey

      pub prefer-first : dx ≤ dy → Preferred job x y (Some (First (places (net_by c job))))
      unfolding first_chosen
      prefer-first h =
          let g : delay (net_of job) (sizing_in (net_of job) x) ≤ delay (net_of job) (sizing_in (net_of job) y) = omega (arith, delay-is job x k passes, delay-is job y k passes) in
          (number-0, le-leb _ _ g, places_is, (number-ranges (net_by c job) x ex).long)

      pub prefer-second : dy < dx → Preferred job x y (Some (Second (places (net_by c job))))
      unfolding first_chosen
      prefer-second h =
          let g : delay (net_of job) (sizing_in (net_of job) y) < delay (net_of job) (sizing_in (net_of job) x) = omega (arith, delay-is job x k passes, delay-is job y k passes) in
          (number-0, lt-leb _ _ g, places_is, (number-ranges (net_by c job) y ey).long)
