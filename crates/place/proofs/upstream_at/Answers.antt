-- `place::upstream_at` meets its contract: the place before its node, if there is one, settles it.
use Rattle.std.proofs.Common.{◌-◌, sym, ap, ◌∙◌, arith}
use Rattle.lattice.specs.Lists.{at}
use Rattle.net.specs.Driving.{before}
use Rattle.net.specs.Order.{driving_by}
use Rattle.net.proofs.InOrder.{placed, in_limits}
use Rattle.place.specs.Figures.{resistances}
use Rattle.place.proofs.Upstream.{before-none, before-some, upstream-most}
use Rattle.place.proofs.upstream_at.Goals as goal

pub returns-then-node-eq0 : goal.returns-then-node-eq0
returns-then-node-eq0 c = before-none _ _ (sym (c.args.places.now.arranged.nodes.held c.args.t c.requires.t_bound) ∙ c.if-node-eq0.true)

pub onward-requires-clause-a_bound : goal.onward-requires-clause-a_bound
onward-requires-clause-a_bound c =
    let arranged = c.args.places.now.arranged in
    let checked = arranged.job.checked in
    let node = arranged.nodes.held c.args.t c.requires.t_bound in
    let falls = (placed checked).falls c.args.t c.requires.t_bound in (
      omega arith,
      upstream-most (driving_by arranged.job.counts arranged.job.bytes.now) (placed checked) (in_limits checked) c.args.bounds.lower.now c.args.bounds.upper.now c.requires.bounds_of.lower (resistances c.args.upstream.now) c.args.t c.requires.upstream (at arranged.hangs.now c.args.t - 1) (omega arith) (omega arith),
    )

pub returns : goal.returns
returns c =
    let arranged = c.args.places.now.arranged in
    c.onward.ensures ∙ before-some _ (at arranged.hangs.now c.args.t) (λ e. c.if-node-eq0.false e) ∙ ap (before _) (arranged.nodes.held c.args.t c.requires.t_bound)
