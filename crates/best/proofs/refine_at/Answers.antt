-- `best::refine_at` meets its contract: the tables have what surrounds the place, and the delay changes as the cost of its index.
use Rattle.place.proofs.Steps.{spot-limits, spot-stepped}
use Rattle.best.proofs.Reaching.{around-small, index-small, exchange-asks, reached}
use Rattle.best.proofs.refine_at.Goals as goal

pub settle-ends-requires : goal.settle-ends-requires
settle-ends-requires c =
    let h = c.requires.place_bound in
    let s = around-small c.args.net.now.sized.job.checked _ c.requires.allowed_by _ h _ _ _ c.weight_at-weight.ensures c.upstream_of-before.ensures c.driven_at-load.ensures in
    (h, s.0, s.1, s.2)

pub step-requires-clause-step_in_limits : goal.step-requires-clause-step_in_limits
step-requires-clause-step_in_limits c =
    let h = c.requires.place_bound in
    let k = c.args.net.now.sized.job.checked in
    let a = c.requires.allowed_by in
    let s = around-small k _ a _ h _ _ _ c.weight_at-weight.ensures c.upstream_of-before.ensures c.driven_at-load.ensures in
    let i = index-small k _ a _ h _ _ _ c.weight_at-weight.ensures c.upstream_of-before.ensures c.driven_at-load.ensures in
    spot-limits c.new-spot.ensures (h, rw c.from.ensures i, s.0, s.1, s.2)

pub exchange-requires : goal.exchange-requires
exchange-requires c =
    let own = rw c.from.ensures at (spot-stepped c.new-spot.ensures c.step.ensures) in
    let asks = exchange-asks c.args.net.now.sized.job.checked _ c.requires.allowed_by _ c.requires.place_bound _ _ _ c.weight_at-weight.ensures c.upstream_of-before.ensures
    c.driven_at-load.ensures _ c.settle-ends.ensures _ _ c.behind_stages.ensures.delay own.delay in
    record { whole_bound = (asks.0, asks.1); out_bound = (asks.2, asks.3) }

pub returns : goal.returns
returns c =
    let own = rw c.from.ensures at (spot-stepped c.new-spot.ensures c.step.ensures) in
    reached c.args.net.now.sized.job.checked _ c.requires.allowed_by _ c.requires.place_bound _ _ _ c.weight_at-weight.ensures c.upstream_of-before.ensures
    c.driven_at-load.ensures _ c.settle-ends.ensures _ _ c.behind_stages.ensures.delay own.delay _ c.exchange.ensures.0
