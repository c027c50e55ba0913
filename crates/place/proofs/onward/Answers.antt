-- `place::onward` meets its contract: a place is free, a driver or a wire.
use Rattle.std.proofs.Common.{sym, ap, ◌∙◌, arith}
use Rattle.lattice.specs.Lists.{at}
use Rattle.net.specs.Order.{placed_by, driving_by}
use Rattle.place.specs.Figures.{resistances}
use Rattle.place.proofs.Steps.{place_at_lem, index-at, slope-same, driver-same}
use Rattle.place.proofs.Loads.{resistances-at}
use Rattle.place.proofs.Upstream.{onward-driver, onward-wire}
use Rattle.place.proofs.onward.Goals as goal

pub slope-own-requires : goal.slope-own-requires
slope-own-requires c =
    let places = c.args.places.now in
    let arranged = places.arranged in
    let few = c.requires.a_bound.0 in (
      place_at_lem arranged.job.checked arranged.in_order c.args.a few,
      index-at c.args.bounds.lower.now arranged.in_order c.requires.bounds_of.lower c.args.a few,
      places.weighed.held c.args.a (omega arith) few ∙ sym (ap (placed_by arranged.job.counts arranged.job.bytes.now).weight (arranged.in_order.held c.args.a few)),
    )

pub returns-then-is_driver : goal.returns-then-is_driver
returns-then-is_driver c =
    let arranged = c.args.places.now.arranged in
    let job = arranged.job in
    let o = arranged.in_order.held c.args.a c.requires.a_bound.0 in
    c.slope-own.ensures.0
    ∙ slope-same job.counts job.bytes.now c.args.a (at c.args.bounds.lower.now c.args.a) _ o
    ∙ onward-driver (driving_by job.counts job.bytes.now) c.args.bounds.lower.now c.args.bounds.upper.now (resistances c.args.upstream.now) c.args.a (omega arith) (sym (driver-same job.counts job.bytes.now c.args.a _ o) ∙ sym c.is_driver.ensures ∙ c.if-is_driver.true)

pub returns : goal.returns
returns c =
    let arranged = c.args.places.now.arranged in
    let job = arranged.job in
    let o = arranged.in_order.held c.args.a c.requires.a_bound.0 in
    omega (
      arith,
      c.add.ensures.0,
      c.slope-own.ensures.0,
      resistances-at c.args.upstream.now c.args.a,
      slope-same job.counts job.bytes.now c.args.a (at c.args.bounds.lower.now c.args.a) _ o,
      onward-wire (driving_by job.counts job.bytes.now) c.args.bounds.lower.now c.args.bounds.upper.now (resistances c.args.upstream.now) c.args.a (omega arith) (sym (driver-same job.counts job.bytes.now c.args.a _ o) ∙ sym c.is_driver.ensures ∙ c.if-is_driver.false),
    )
