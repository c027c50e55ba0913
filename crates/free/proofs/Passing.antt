-- Indices that are passed over, one after the other.
use mathlib.Core.Logic.{⊎_elim}
use mathlib.Core.Path.{◌≡◌, refl}
use Prim.Native.Nat.{ℕ, suc, ◌+◌, ◌≤◌, ◌<◌}
use native.Mathlib.Nat.{eq-or-lt_of_le}
use native.Mathlib.Omega.{arith}
use Rattle.net.specs.Driving.{Driving, cost}
use Rattle.std.specs.Prelude.{Option, Some, None}
use Rattle.free.specs.Searching.{PassedTo, first_of}

module _ {net : Driving} {w u p l added least low top : ℕ} where
  pub passing-start : low ≤ top → PassedTo net w u p l added least low top low
  passing-start h = record { from = omega arith; within = omega arith; above = λ j a b. absurd (omega arith) }

  -- the index k gives a larger delay too
  pub passing_step : {k : ℕ} → PassedTo net w u p l added least low top k → k ≤ top → least < added + cost net w u p l k → PassedTo net w u p l added least low top (k + 1)
  passing_step {k} a h m =
      record {
        from = omega (arith, a.from);
        within = omega arith;
        above = λ j b c. ⊎_elim (λ (e : j ≡ k). rw e m) (λ d. a.above j b d) (eq-or-lt_of_le (le j c));
      }
    where
      le : (j : ℕ) → j < k + 1 → j ≤ k
      le j c = omega arith

-- where no index is left, all are passed over
pub first-none : (top : ℕ) (o : Option ℕ) → ((k : ℕ) → o ≡ Some k → ⊥) → first_of top o ≡ suc top
first-none top (Some k) n = absurd (n k refl)
first-none top None n = refl
