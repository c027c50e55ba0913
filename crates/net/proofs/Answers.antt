-- The answers by cases: a refusal of the job is every operation's refusal, and past it the operation's own questions decide.
use mathlib.Core.Path.{◌≡◌, refl}
use mathlib.Core.Bool.{Bool, true, false, cond}
use mathlib.Core.List.{List, [], ◌∷◌, ◌++◌}
use Prim.Native.Nat.{ℕ, ◌≤◌, ◌<◌}
use native.Mathlib.Omega.{arith}
use borrow.Author.Tests.{ne_eqb}
use lib.Dec.{T, leb→le, lit≤}
use lib.ListN.{set}
use lib.Seq.{length-take-le, get_or-take}
use Rattle.lattice.specs.Lists.{at}
use Rattle.lattice.specs.Space.{Allowed}
use Rattle.lattice.specs.Refine.{best_below, best_above}
use Rattle.lattice.proofs.ListLaws.{every-at}
use Rattle.net.specs.Net.{Net, places, net_of}
use Rattle.net.specs.Delay.{delay, load_figure}
use Rattle.net.specs.Sizings.{allowed}
use Rattle.net.specs.Questions.{Question, in_range, ask, first_no, job_questions, refusal}
use Rattle.net.specs.Checked.{InRanges}
use Rattle.net.specs.Answers.{question15, question16, sizing_in, measure_number, measured, refine_number, refined, choose_number, chosen}
use Rattle.net.proofs.Questions.{in-range, allowed-iff}

-- every question has a number above 0
unfoldable pub Numbered : List Question → Type 0
Numbered [] = Unit {0}
Numbered (q ∷ qs) = (1 ≤ q.number) × Numbered qs

pub first_no-pass : (xs ys : List Question) → Numbered xs → first_no xs ≡ 0 → first_no (xs ++ ys) ≡ first_no ys
unfolding first_no Numbered
first_no-pass [] ys a e = refl
first_no-pass (q ∷ xs) ys a e = go q.passed e (λ f. first_no-pass xs ys a.1 f)
  where
    go : (b : Bool) → cond b (first_no xs) q.number ≡ 0 → (first_no xs ≡ 0 → first_no (xs ++ ys) ≡ first_no ys) → cond b (first_no (xs ++ ys)) q.number ≡ first_no ys
    go true f rest = rest f
    go false f rest = absurd (omega (arith, a.0))

pub first_no-stop : (xs ys : List Question) → (first_no xs ≡ 0 → ⊥) → first_no (xs ++ ys) ≡ first_no xs
unfolding first_no
first_no-stop [] ys n = absurd (n refl)
first_no-stop (q ∷ xs) ys n = go q.passed n (λ f. first_no-stop xs ys f)
  where
    go : (b : Bool) → (cond b (first_no xs) q.number ≡ 0 → ⊥) → ((first_no xs ≡ 0 → ⊥) → first_no (xs ++ ys) ≡ first_no xs)
        → cond b (first_no (xs ++ ys)) q.number ≡ cond b (first_no xs) q.number
    go true f rest = rest f
    go false f rest = refl

pub first_no-yes : (n : ℕ) (qs : List Question) (b : Bool) → b ≡ true → first_no (ask n b ∷ qs) ≡ first_no qs
unfolding first_no
first_no-yes n qs b e = rw e

pub first_no-no : (n : ℕ) (qs : List Question) (b : Bool) → b ≡ false → first_no (ask n b ∷ qs) ≡ n
unfolding first_no
first_no-no n qs b e = rw e

job_questions-numbered : (job : List ℕ) → Numbered (job_questions job)
unfolding job_questions Numbered
job_questions-numbered job = (lit≤ tt, (lit≤ tt, (lit≤ tt, (lit≤ tt, (lit≤ tt, (lit≤ tt, (lit≤ tt, (lit≤ tt, (lit≤ tt, (lit≤ tt, (lit≤ tt, (lit≤ tt, (lit≤ tt, (lit≤ tt, (lit≤ tt, (lit≤ tt, tt))))))))))))))))

module _ (job : List ℕ) (ys : List Question) where
  -- a job that passes is asked the operation's questions
  pub job-passes : refusal job ≡ 0 → first_no (job_questions job ++ ys) ≡ first_no ys
  unfolding refusal
  job-passes e = first_no-pass (job_questions job) ys (job_questions-numbered job) e

  -- a job that fails is refused by every operation
  pub job-fails : (refusal job ≡ 0 → ⊥) → first_no (job_questions job ++ ys) ≡ refusal job
  unfolding refusal
  job-fails n = first_no-stop (job_questions job) ys n

-- A sizing that passes questions 15 and 16 has its indices in their ranges, and its first P bytes are an allowed sizing.
module _ (net : Net) (x : List ℕ) where
  pub sizing-ranges : T (question15 net x) → T (question16 net x) → InRanges net x
  sizing-ranges t u = record { long = leb→le _ _ t; low = λ p h. (range p h).0; high = λ p h. (range p h).1 }
    where
      range : (p : ℕ) → p < places net → (net.lowest p ≤ at x p) × (at x p ≤ net.highest p)
      range p h = in-range (net.lowest p) (net.highest p) (at x p) (every-at (places net) (λ q. in_range (net.lowest q) (net.highest q) (at x q)) u p h)

  pub ranges-allowed : InRanges net x → Allowed (allowed net) (sizing_in net x)
  ranges-allowed r =
      (allowed-iff net (sizing_in net x)).1
      record {
        long = length-take-le (places net) x r.long;
        low = λ p h. rw (get_or-take (places net) x p 0 h) (r.low p h);
        high = λ p h. rw (get_or-take (places net) x p 0 h) (r.high p h);
      }

-- The questions of a sizing, 15 and 16.
abbrev pub sizing_questions : List ℕ → List ℕ → List Question
sizing_questions job x = ask 15 (question15 (net_of job) x) ∷ ask 16 (question16 (net_of job) x) ∷ []

module _ (job x : List ℕ) where
  pub measured-refused : (n : ℕ) → measure_number job x ≡ n → (n ≡ 0 → ⊥) → measured job x ≡ record { number = n; delay = 0; load = 0 }
  unfolding measured
  measured-refused n e z = rw (ne_eqb (measure_number job x) 0 (λ f. z (omega arith)), e)

  pub measured-answered : measure_number job x ≡ 0
      → measured job x ≡ record { number = 0; delay = delay (net_of job) (sizing_in (net_of job) x); load = load_figure (net_of job) (sizing_in (net_of job) x) }
  unfolding measured
  measured-answered e = rw e

  module _ (p : ℕ) where
    pub refined-refused : (n : ℕ) → refine_number job x p ≡ n → (n ≡ 0 → ⊥) → refined job x p ≡ record { number = n; lowest = 0; highest = 0; delay = 0 }
    unfolding refined
    refined-refused n e z = rw (ne_eqb (refine_number job x p) 0 (λ f. z (omega arith)), e)

    pub refined-answered : refine_number job x p ≡ 0
        → refined job x p
        ≡ record {
          number = 0;
          lowest = best_below (allowed (net_of job)) (delay (net_of job)) (sizing_in (net_of job) x) p;
          highest = best_above (allowed (net_of job)) (delay (net_of job)) (sizing_in (net_of job) x) p;
          delay = delay (net_of job) (set (sizing_in (net_of job) x) p (best_below (allowed (net_of job)) (delay (net_of job)) (sizing_in (net_of job) x) p));
        }
    unfolding refined
    refined-answered e = rw e

module _ (job x y : List ℕ) where
  pub chosen-refused : (choose_number job x y ≡ 0 → ⊥) → chosen job x y ≡ []
  unfolding chosen
  chosen-refused z = rw (ne_eqb (choose_number job x y) 0 z)
