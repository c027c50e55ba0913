-- The steps over the stages: that each sum is below 2 ^ 63, and that it is what the definitions say.
use mathlib.Core.Path.{◌≡◌}
use mathlib.Core.List.{List}
use Prim.Native.Nat.{ℕ, ◌+◌, ◌*◌, ◌^◌, ◌≤◌, ◌<◌}
use native.Mathlib.Numerals.{add-one}
use native.Mathlib.Omega.{arith}
use Rattle.lattice.specs.Lists.{sum}
use Rattle.net.specs.declared.Counts.{Counts}
use Rattle.net.specs.Net.{net_by}
use Rattle.net.specs.Delay.{stage_delay}
use Rattle.net.specs.Segments.{stage_charge}
use Rattle.net.proofs.Sum.{sum-suc}
use Rattle.net.proofs.Questions.{ordered, limited}
use Rattle.net.proofs.Bound.{stages-bounded, stage_delay-small, stage_charge-small}
use Rattle.stages.specs.declared.DelayAndLoad.{DelayAndLoad}
use Rattle.stages.specs.Charges.{StageOf}
use Rattle.stages.specs.Ready.{Ready}

-- a stage after those before it, by f: what each contributes, or what each charges
pub stages-step : (f : ℕ → ℕ) (s t d : ℕ) → t ≡ sum s f → d ≡ f s → t + d ≡ sum (s + 1) f
stages-step f s t d e g = rw (add-one s) (omega (arith, sum-suc s f))

module _ {c : Counts} {job x : List ℕ} (r : Ready c job x) where
  -- a stage after those before it, where each has at most b
  pub stages-room : (f : ℕ → ℕ) (s t d : ℕ) → t ≡ sum s f → d ≡ f s → (b : ℕ) → ((i : ℕ) → i < c.stages → f i ≤ b) → s < c.stages → 4 * b < 2 ^ 63 → t + d < 2 ^ 63
  stages-room f s t d e g b small h k =
      omega (arith, stages-step f s t d e g, stages-bounded (net_by c job) (ordered r.checked) (limited r.checked) b small (s + 1) (omega arith))

  module _ (s : ℕ) (one : DelayAndLoad) (f : StageOf (net_by c job) x s one) (h : s < c.stages) where
    pub stages_delay-room : (t : ℕ) → t ≡ sum s (stage_delay (net_by c job) x) → t + one.delay.0 < 2 ^ 63
    stages_delay-room t e =
        stages-room _ s t _ e f.delay 1370000000000 (stage_delay-small _ (ordered r.checked) (limited r.checked) x r.in_ranges) h (omega arith)

    pub stages_charge-room : (t : ℕ) → t ≡ sum s (stage_charge (net_by c job) x) → t + one.load.0 < 2 ^ 63
    stages_charge-room t e =
        stages-room _ s t _ e f.load 13700000 (stage_charge-small _ (ordered r.checked) (limited r.checked) x r.in_ranges) h (omega arith)
