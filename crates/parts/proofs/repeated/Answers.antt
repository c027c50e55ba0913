-- `parts::repeated` meets its contract: each step is a lemma of `Repeating`.
use mathlib.Core.Path.{refl}
use Prim.Native.Nat.{◌*◌}
use native.Mathlib.Omega.{arith}
use Rattle.net.proofs.Questions.{repeater-held}
use Rattle.parts.proofs.Repeating.{load-small, weight-small, charge-is, delay-room, repeated-hanging}
use Rattle.parts.proofs.repeated.Goals as goal

pub driver-driven-requires : goal.driver-driven-requires
driver-driven-requires c =
    let r = c.args.net.now.ready in
    let h = c.requires.r_lt_repeaters in
    (omega (arith, repeater-held r.checked r.in_ranges c.args.r h), load-small r c.args.r h _ c.requires.tally)

pub gate-seen-requires : goal.gate-seen-requires
gate-seen-requires c =
    let r = c.args.net.now.ready in
    omega (arith, repeater-held r.checked r.in_ranges c.args.r c.requires.r_lt_repeaters)

pub overflow_mul-part : goal.overflow_mul-part
overflow_mul-part c = omega (arith, weight-small c.args.net.now.ready c.args.r c.requires.r_lt_repeaters _ c.requires.tally)

pub weighted-requires : goal.weighted-requires
weighted-requires c =
    let w = weight-small c.args.net.now.ready c.args.r c.requires.r_lt_repeaters _ c.requires.tally in
    let room = delay-room c.args.net.now.ready c.args.r c.requires.r_lt_repeaters _ c.requires.tally _ c.from-size.ensures _ c.driver-driven.ensures in
    omega (arith, room (2 * c.args.part.weight) (omega arith))

pub add-requires : goal.add-requires
add-requires c =
    let w = weight-small c.args.net.now.ready c.args.r c.requires.r_lt_repeaters _ c.requires.tally in
    let room = delay-room c.args.net.now.ready c.args.r c.requires.r_lt_repeaters _ c.requires.tally _ c.from-size.ensures _ c.driver-driven.ensures in
    omega (arith, c.weighted.ensures.0, room (2 * c.args.part.weight) (omega arith))

pub returns : goal.returns
returns c =
    let r = c.args.net.now.ready in
    let h = c.requires.r_lt_repeaters in
    record {
      part = repeated-hanging r c.args.r h _ c.requires.tally _ c.from-size.ensures _ c.driver-driven.ensures _ refl c.gate-seen.ensures
          (omega (arith, c.add.ensures.0, c.weighted.ensures.0));
      charge = charge-is r c.args.r h _ c.requires.tally _ c.from-size.ensures _ c.driver-driven.ensures;
    }
