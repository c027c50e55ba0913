-- `output::reply` meets its contract: by the length of the input and what size answers.
use mathlib.Core.Path.{refl}
use mathlib.Core.Logic.{inl, inr}
use borrow.Author.Rules.{rules}
use Rattle.output.proofs.Figures.{sized, few, nothing_put, long-reply, long-told, answer-reply, answer-told, bounds-reply, bounds-told, refused-told, refused-reply, untold}
use Rattle.output.proofs.Lines.{wrote-holds, held}
use Rattle.output.proofs.reply.Goals as goal

pub returns-then-input-gt-MOST : goal.returns-then-input-gt-MOST
returns-then-input-gt-MOST c =
    let r = long-reply c.args.input.now c.if-input-gt-MOST.true c.args.out.now in
    let l = wrote-holds c.put_bytes.ensures.wrote (search rules) in
    record { reply = r; line = rw (← long-told c.args.input.now c.if-input-gt-MOST.true) l; within = (held r, held l) }

pub reply_length-requires : goal.reply_length-requires
reply_length-requires c =
    let z = c.in-Ok-Finished in
    let s = sized {before = c.args.out.now} c.if-input-gt-MOST.false (search rules) (rw z.field-0-is at z.ensures.number) z.ensures.buffer in
    few s (inl refl) (rw z.field-0-is at z.ensures.counts)

pub returns-in-Ok-Finished : goal.returns-in-Ok-Finished
returns-in-Ok-Finished c =
    let z = c.in-Ok-Finished in
    let s = sized {before = c.args.out.now} c.if-input-gt-MOST.false (search rules) (rw z.field-0-is at z.ensures.number) z.ensures.buffer in
    let k = rw z.field-0-is at z.ensures.counts in
    let r = answer-reply s k _ c.reply_length.ensures in
    let l = nothing_put refl in
    record { reply = r; line = rw (← answer-told s k) l; within = (held r, held l) }

pub reply_length-requires-in-Ok-BoundsOnly : goal.reply_length-requires-in-Ok-BoundsOnly
reply_length-requires-in-Ok-BoundsOnly c =
    let z = c.in-Ok-BoundsOnly in
    let s = sized {before = c.args.out.now} c.if-input-gt-MOST.false (search rules) (rw z.field-0-is at z.ensures.number) z.ensures.buffer in
    few s (inr refl) (rw z.field-0-is at z.ensures.counts)

pub returns-in-Ok-BoundsOnly : goal.returns-in-Ok-BoundsOnly
returns-in-Ok-BoundsOnly c =
    let z = c.in-Ok-BoundsOnly in
    let s = sized {before = c.args.out.now} c.if-input-gt-MOST.false (search rules) (rw z.field-0-is at z.ensures.number) z.ensures.buffer in
    let k = rw z.field-0-is at z.ensures.counts in
    let r = bounds-reply s k _ c.reply_length-in-Ok-BoundsOnly.ensures in
    let l = wrote-holds c.put_refusal.ensures.puts.wrote (search rules) in
    record { reply = r; line = rw (← bounds-told s k) (rw c.number.ensures at l); within = (held r, held l) }

pub returns-in-Err : goal.returns-in-Err
returns-in-Err c =
    let z = c.in-Err in
    let s = sized {before = c.args.out.now} c.if-input-gt-MOST.false (search rules) z.ensures.number z.ensures.buffer in
    let n = untold _ _ z.unwritten z.ensures.counts z.ensures.number in
    let r = refused-reply s n in
    let l = wrote-holds c.put_refusal-in-Err.ensures.puts.wrote (search rules) in
    record { reply = r; line = rw (← refused-told s n, ← c.number-in-Err.ensures) l; within = (held r, held l) }
