-- `stages::stage_load` meets its contract: both ways are the definition's.
use mathlib.Core.Path.{sym, ◌∙◌}
use native.Mathlib.Numerals.{add-one}
use native.Mathlib.Omega.{arith}
use Rattle.net.proofs.Charged.{last-drives, other-drives}
use Rattle.stages.proofs.stage_load.Goals as goal

pub returns-then-s-net : goal.returns-then-s-net
returns-then-s-net c = c.requires.tree_value ∙ sym (last-drives _ _ c.args.s (omega arith))

pub returns : goal.returns
returns c = c.gate.ensures ∙ rw (c.from.ensures, add-one) (sym (other-drives _ _ c.args.s (λ h. c.if-s-net.false (omega arith))))
