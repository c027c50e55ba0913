-- What drivers contribute to the delay of every sink behind them, and what they charge.
use Rattle.std.specs.Prelude.{◌≡◌, List, ℕ, ◌+◌, ◌*◌}
use Rattle.lattice.specs.Lists.{sum}
use Rattle.net.specs.Net.{Net}
use Rattle.net.specs.Delay.{stage_delay, stages_delay}
use Rattle.net.specs.Segments.{stage_charge}
use Rattle.stages.specs.declared.DelayAndLoad.{DelayAndLoad}

-- r has the delay d and the load l.
pub record Has (d l : ℕ) (r : DelayAndLoad) : Type 0 where
  pub delay : r.delay.0 ≡ d
  pub load : r.load.0 ≡ l

-- r has what a driver of the size k contributes to every sink behind it, and what it charges, where it drives the load l.
abbrev pub DriverOf : Net → ℕ → ℕ → DelayAndLoad → Type 0
DriverOf net k l = Has (net.driver_resistance k * (net.output k + l)) (net.output k + l)

-- r has what stage s contributes to every sink, and what it charges.
abbrev pub StageOf : Net → List ℕ → ℕ → DelayAndLoad → Type 0
StageOf net x s = Has (stage_delay net x s) (stage_charge net x s)

-- r has what all stages contribute to every sink, and what they charge.
abbrev pub StagesOf : Net → List ℕ → DelayAndLoad → Type 0
StagesOf net x = Has (stages_delay net x) (sum net.stages (stage_charge net x))
