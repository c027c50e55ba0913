-- The scaled delay once more, segment by segment and repeater by repeater, and what each driver charges: what the code computes and its contracts
-- cite. `proofs/Exchange` and `proofs/Charged` show that they make the delay and the load figure of `specs/Delay`, so a reader need not believe
-- this file.
use Rattle.std.specs.Prelude.{cond, List, ℕ, zero, suc, ◌+◌, ◌*◌, eqb}
use Rattle.lattice.specs.Lists.{at, sum}
use Rattle.net.specs.Net.{Net}
use Rattle.net.specs.Delay.{branches, branch, at_repeater, repeater_size, branches_load, stage_load, segment_delay, repeater_delay}

-- Of the d segments from j on: the branches of those that hang at the node q, each by what it has with its own branches.
unfoldable pub forest : (ℕ → ℕ) → (ℕ → ℕ → ℕ) → ℕ → ℕ → ℕ → ℕ
forest parent has zero q j = 0
forest parent has (suc d) q j = cond (eqb (parent j) q) (has j (forest parent has d (suc j) (suc j))) 0 + forest parent has d q (suc j)

-- The weight of the sinks at or below segment i's far end.
unfoldable pub weight_below : Net → ℕ → ℕ
weight_below net i = branch net net.weight i

-- The weight of the sinks strictly below it: those behind a repeater at its far end.
unfoldable pub weight_behind : Net → ℕ → ℕ
weight_behind net i = branches net net.weight (suc i)

-- The weight of all sinks.
unfoldable pub total_weight : Net → ℕ
total_weight net = sum net.segments net.weight

module _ (net : Net) (x : List ℕ) where
  -- A segment's part of the scaled delay.
  abbrev pub own_delay : ℕ → ℕ
  own_delay i = weight_below net i * segment_delay net x i

  -- A repeater's part of it.
  abbrev pub own_repeater_delay : ℕ → ℕ
  own_repeater_delay r = 2 * weight_behind net (net.site r) * repeater_delay net x r

  -- The scaled delay that arises inside the branches at the node q, in their segments and repeaters.
  abbrev pub inside : ℕ → ℕ
  inside q = branches net (λ i. own_delay i + at_repeater net own_repeater_delay i) q

  -- What stage s charges: its own output and what it drives.
  abbrev pub stage_charge : ℕ → ℕ
  stage_charge s = net.output (at x s) + stage_load net x s

  -- What repeater r charges: its own output and the load of the branches behind it.
  abbrev pub repeater_charge : ℕ → ℕ
  repeater_charge r = net.output (repeater_size net x r) + branches_load net x (suc (net.site r))
