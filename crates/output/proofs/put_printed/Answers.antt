-- `output::put_printed` meets its contract: by the length of the input and what size answers.
use lib.ListN.{replicate}
use mathlib.Core.Path.{refl}
use mathlib.Core.Logic.{inl, inr}
use Rattle.text.proofs.Writing.{puts_then}
use Rattle.output.proofs.Figures.{sized, few, long-printed, answer-printed, bounds-printed, refused-printed, untold}
use Rattle.output.proofs.put_printed.Goals as goal

pub returns-then-input-gt-MOST-clause-puts : goal.returns-then-input-gt-MOST-clause-puts
returns-then-input-gt-MOST-clause-puts c = rw (← long-printed c.args.input.now c.if-input-gt-MOST.true) c.put_bytes.ensures

pub invariant_of-places : goal.invariant_of-places
invariant_of-places c =
    let z = c.in-Ok-Finished in
    let s = sized {before = replicate 616 0} c.if-input-gt-MOST.false refl (rw z.field-0-is at z.ensures.number) z.ensures.buffer in
    record { few = few s (inl refl) (rw z.field-0-is at z.ensures.counts) }

pub returns-in-Ok-Finished-clause-puts : goal.returns-in-Ok-Finished-clause-puts
returns-in-Ok-Finished-clause-puts c =
    let z = c.in-Ok-Finished in
    let s = sized {before = replicate 616 0} c.if-input-gt-MOST.false refl (rw z.field-0-is at z.ensures.number) z.ensures.buffer in
    rw (← answer-printed s (rw z.field-0-is at z.ensures.counts)) c.put_answer.ensures.puts

pub invariant_of-places-in-Ok-BoundsOnly : goal.invariant_of-places-in-Ok-BoundsOnly
invariant_of-places-in-Ok-BoundsOnly c =
    let z = c.in-Ok-BoundsOnly in
    let s = sized {before = replicate 616 0} c.if-input-gt-MOST.false refl (rw z.field-0-is at z.ensures.number) z.ensures.buffer in
    record { few = few s (inr refl) (rw z.field-0-is at z.ensures.counts) }

pub returns-in-Ok-BoundsOnly-clause-puts : goal.returns-in-Ok-BoundsOnly-clause-puts
returns-in-Ok-BoundsOnly-clause-puts c =
    let z = c.in-Ok-BoundsOnly in
    let s = sized {before = replicate 616 0} c.if-input-gt-MOST.false refl (rw z.field-0-is at z.ensures.number) z.ensures.buffer in
    rw (← bounds-printed s (rw z.field-0-is at z.ensures.counts)) (puts_then (rw c.number.ensures at c.put_refusal.ensures.puts) c.put_lines.ensures.puts)

pub returns-in-Err-clause-puts : goal.returns-in-Err-clause-puts
returns-in-Err-clause-puts c =
    let z = c.in-Err in
    let s = sized {before = replicate 616 0} c.if-input-gt-MOST.false refl z.ensures.number z.ensures.buffer in
    rw (← refused-printed s (untold _ _ z.unwritten z.ensures.counts z.ensures.number), ← c.number-in-Err.ensures) c.put_refusal-in-Err.ensures.puts
