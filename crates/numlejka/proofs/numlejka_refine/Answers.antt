-- `numlejka::numlejka_refine` meets its contract: both ends and the delay are written, a refusal writes nothing.
use Rattle.numlejka.proofs.Results.{refine-answer, refine-refusal}
use Rattle.numlejka.proofs.numlejka_refine.Goals as goal

pub returns-in-Ok : goal.returns-in-Ok
returns-in-Ok c =
    let h = refine-answer c.args.job.now c.args.sizing.now c.args.place c.in-Ok.best c.in-Ok.ensures in
    record { number = h.0; lowest = h.1; highest = h.2; delay = h.3 }

pub returns-in-Err : goal.returns-in-Err
returns-in-Err c =
    let h = refine-refusal c.args.job.now c.args.sizing.now c.args.place c.in-Err.question c.number.result c.args.lowest.now c.args.highest.now c.args.delay.now c.number.ensures.number c.in-Err.ensures in
    record { number = h.0; lowest = h.1; highest = h.2; delay = h.3 }
