-- `numlejka::numlejka_measure` meets its contract: figures are written, a refusal writes nothing.
use Rattle.numlejka.proofs.Results.{measure-answer, measure-refusal}
use Rattle.numlejka.proofs.numlejka_measure.Goals as goal

pub returns-in-Ok : goal.returns-in-Ok
returns-in-Ok c =
    let h = measure-answer c.args.job.now c.args.sizing.now c.in-Ok.figures c.in-Ok.ensures in
    record { number = h.0; delay = h.1; load = h.2 }

pub returns-in-Err : goal.returns-in-Err
returns-in-Err c =
    let h = measure-refusal c.args.job.now c.args.sizing.now c.in-Err.refusal c.number.result c.args.delay.now c.args.load.now c.number.ensures.number c.in-Err.ensures in
    record { number = h.0; delay = h.1; load = h.2 }
