-- A delay and a load figure read the indices of the places and nothing behind them.
use mathlib.Core.Path.{◌≡◌, sym, ap, ◌∙◌}
use mathlib.Core.List.{List}
use Prim.Native.Nat.{ℕ, suc, ◌+◌, ◌-◌, ◌<◌}
use native.Mathlib.Omega.{arith}
use lib.ListN.{take}
use lib.Seq.{get_or-take}
use Rattle.lattice.specs.Lists.{at}
use Rattle.lattice.proofs.ListLaws.{ext}
use Rattle.lattice.proofs.Renumbering.{length-arranged, at-arranged}
use Rattle.net.specs.Net.{Net, places}
use Rattle.net.specs.Delay.{own_load, repeater_size, delay, gates_load, outputs_load, repeaters_load, load_figure}
use Rattle.net.specs.Checked.{Ordered}
use Rattle.net.specs.Driving.{delay_by}
use Rattle.net.specs.Order.{order, by_position, driving}
use Rattle.net.proofs.Sum.{sum_same}
use Rattle.net.proofs.Order.{numbering}
use Rattle.net.proofs.Positions.{delay-by-position}

module _ (net : Net) (o : Ordered net) where
  pub delay-reads : (x y : List ℕ) → ((p : ℕ) → p < places net → at x p ≡ at y p) → delay net x ≡ delay net y
  delay-reads x y same =
      let n = places net in
      let f = order net in
      let e : by_position net x ≡ by_position net y = ext n _ _ (length-arranged n f x) (length-arranged n f y)
      (λ t h. at-arranged n f x t h ∙ same (f t) ((numbering net o.sites o.rising).inside t h) ∙ sym (at-arranged n f y t h)) in
      delay-by-position net o x ∙ ap (delay_by (driving net)) e ∙ sym (delay-by-position net o y)

  pub delay-take : (x : List ℕ) → delay net (take (places net) x) ≡ delay net x
  delay-take x = delay-reads (take (places net) x) x (λ p h. get_or-take (places net) x p 0 h)

module _ (net : Net) where
  pub load_figure-reads : (x y : List ℕ) → ((p : ℕ) → p < places net → at x p ≡ at y p) → load_figure net x ≡ load_figure net y
  unfolding load_figure gates_load outputs_load repeaters_load
  load_figure-reads x y same =
      let own = sum_same net.segments (own_load net x) (own_load net y) (λ i h. ap (λ (k : ℕ). net.wire_capacitance i k + net.sink i) (same (net.stages + i) (omega arith))) in
      let gates = sum_same (net.stages - 1) (λ s. net.gate (at x (suc s))) (λ s. net.gate (at y (suc s))) (λ s h. ap net.gate (same (suc s) (omega arith))) in
      let outputs = sum_same net.stages (λ s. net.output (at x s)) (λ s. net.output (at y s)) (λ s h. ap net.output (same s (omega arith))) in
      let repeaters = sum_same net.repeaters (λ r. net.gate (repeater_size net x r) + net.output (repeater_size net x r))
      (λ r. net.gate (repeater_size net y r) + net.output (repeater_size net y r))
      (λ r h. ap (λ (k : ℕ). net.gate k + net.output k) (same (net.stages + net.segments + r) (omega arith))) in
      omega arith

  pub load_figure-take : (x : List ℕ) → load_figure net (take (places net) x) ≡ load_figure net x
  load_figure-take x = load_figure-reads (take (places net) x) x (λ p h. get_or-take (places net) x p 0 h)
