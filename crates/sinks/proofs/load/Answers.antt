-- `sinks::load` meets its contract: each record before w is accepted, and the table has the weights by them.
use Rattle.std.proofs.Common.{ap, not, ◌∙◌, le_antisymm, add-one, arith}
use Rattle.net.proofs.SinkWeights.{weights-fit}
use Rattle.lattice.proofs.Every.{begins, goes_on, stops, ends}
use Rattle.sinks.proofs.Loading.{all-loaded, asks-all}
use Rattle.sinks.proofs.load.Goals as goal

pub loop-w-init : goal.loop-w-init
loop-w-init c = (begins _ _, c.requires.loaded_to)

pub load_one-requires-clause-fits : goal.load_one-requires-clause-fits
load_one-requires-clause-fits c =
    let s = c.args.all.now in
    weights-fit s.records.counts s.records.bytes.now (rw c.requires.fit tt) c.loop-w.w (omega (arith, s.weights_held.counted))

pub returns-then-not-load_one-clause-asked : goal.returns-then-not-load_one-clause-asked
returns-then-not-load_one-clause-asked c = stops c.loop-w.invariant.0 c.loop-w-test.true c.load_one.ensures.asked (ap not c.if-not-load_one.true) ∙ asks-all _ _ c.args.all.now.weights_held.counted

pub loop-w-preserved : goal.loop-w-preserved
loop-w-preserved c =
    let i = c.loop-w in (
      goes_on i.invariant.0 c.loop-w-test.true c.load_one.ensures.asked (ap not c.if-not-load_one.false),
      rw (add-one i.w) (c.load_one.ensures.loaded c.if-not-load_one.false),
    )

pub returns : goal.returns
returns c =
    let l = c.loop-w in
    let e = le_antisymm l.invariant.0.within (omega arith) in
    record { asked = ends l.invariant.0 (omega arith) ∙ asks-all _ _ c.args.all.now.weights_held.counted; loaded = λ t. all-loaded c.args.all.now.weights_held.counted (rw e at l.invariant.1) }
