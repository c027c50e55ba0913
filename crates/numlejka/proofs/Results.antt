-- Each case of an operation's answer is what the definitions promise a caller in C.
use mathlib.Core.Path.{◌≡◌, ap, ◌∙◌}
use mathlib.Core.List.{List}
use Prim.Native.Nat.{ℕ, ◌≤◌}
use native.Mathlib.Omega.{arith}
use Rattle.std.specs.Prelude.{Some, None, Ok, Err}
use borrow.Author.Tests.{ne_eqb}
use Rattle.net.specs.Answers.{Measured, Refined, measured, refined, choose_number}
use Rattle.stages.specs.declared.DelayAndLoad.{DelayAndLoad}
use Rattle.best.specs.declared.EndsAndDelay.{EndsAndDelay}
use Rattle.refusal.specs.declared.Refusal.{Refusal}
use Rattle.refusal.specs.Numbers.{number_of}
use Rattle.refusal.proofs.Positive.{number-positive}
use Rattle.operations.specs.declared.Preference.TheVariants.{First, Second}
use Rattle.operations.specs.Outcomes.{measured_by, refined_by, Preferred}
use Rattle.numlejka.specs.Results.{answered, chosen_slice}

-- a refusal leaves what a parameter held
kept : (n v b : ℕ) → 1 ≤ n → b ≡ answered n v b
kept n v b h = rw (ne_eqb n 0 (λ e. omega arith))

module _ (job x : List ℕ) where
  pub measure-answer : (f : DelayAndLoad) → measured_by (Ok f) ≡ measured job x
      → (0 ≡ (measured job x).number) × (f.delay.0 ≡ (measured job x).delay) × (f.load.0 ≡ (measured job x).load)
  measure-answer f h = (ap (λ (r : Measured). r.number) h, ap (λ (r : Measured). r.delay) h, ap (λ (r : Measured). r.load) h)

  pub measure-refusal : (q : Refusal) (n d l : ℕ) → n ≡ number_of q → measured_by (Err q) ≡ measured job x
      → (n ≡ (measured job x).number) × (d ≡ answered n (measured job x).delay d) × (l ≡ answered n (measured job x).load l)
  measure-refusal q n d l e h =
      let k : 1 ≤ n = rw e (number-positive q) in
      (e ∙ ap (λ (r : Measured). r.number) h, kept n _ d k, kept n _ l k)

  module _ (p : ℕ) where
    pub refine-answer : (f : EndsAndDelay) → refined_by (Ok f) ≡ refined job x p
        → (0 ≡ (refined job x p).number) × (f.lowest ≡ (refined job x p).lowest) × (f.highest ≡ (refined job x p).highest) × (f.delay.0 ≡ (refined job x p).delay)
    refine-answer f h =
        (ap (λ (r : Refined). r.number) h, ap (λ (r : Refined). r.lowest) h, ap (λ (r : Refined). r.highest) h, ap (λ (r : Refined). r.delay) h)

    pub refine-refusal : (q : Refusal) (n l h d : ℕ) → n ≡ number_of q → refined_by (Err q) ≡ refined job x p
        → (n ≡ (refined job x p).number) × (l ≡ answered n (refined job x p).lowest l) × (h ≡ answered n (refined job x p).highest h)
        × (d ≡ answered n (refined job x p).delay d)
    refine-refusal q n l h d e t =
        let k : 1 ≤ n = rw e (number-positive q) in
        (e ∙ ap (λ (r : Refined). r.number) t, kept n _ l k, kept n _ h k, kept n _ d k)

module _ (job x y : List ℕ) where
  pub choose-first : (p : ℕ) → Preferred job x y (Some (First p)) → 1 ≡ chosen_slice job x y
  unfolding chosen_slice
  choose-first p f = rw (f.0, f.1)

  pub choose-second : (p : ℕ) → Preferred job x y (Some (Second p)) → 2 ≡ chosen_slice job x y
  unfolding chosen_slice
  choose-second p f = rw (f.0, f.1)

  pub choose-neither : Preferred job x y None → 0 ≡ chosen_slice job x y
  unfolding chosen_slice
  choose-neither z = rw (ne_eqb (choose_number job x y) 0 z)
