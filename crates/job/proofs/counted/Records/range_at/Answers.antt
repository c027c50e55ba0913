-- `Records::range_at` meets its contract: each way through is the definition's.
use Rattle.std.proofs.Common.{sym, arith, lit<}
use Rattle.net.proofs.Places.{of-stage, of-segment, of-repeater}
use Rattle.job.proofs.counted.Records.range_at.Goals as goal

pub returns-then-p-self : goal.returns-then-p-self
returns-then-p-self c = let b = c.args in (sym (of-stage _ _ (λ s. 2) (λ i. 13) (λ r. 3) b.p (omega arith)), lit< tt)

pub returns-then-p-self-2 : goal.returns-then-p-self-2
returns-then-p-self-2 c =
    let b = c.args in
    (sym (of-segment _ _ (λ s. 2) (λ i. 13) (λ r. 3) b.p (omega arith) (omega arith)), lit< tt)

pub returns : goal.returns
returns c =
    let b = c.args in
    (sym (of-repeater _ _ (λ s. 2) (λ i. 13) (λ r. 3) b.p (omega arith)), lit< tt)
