use Rattle.std.proofs.Common.{arith, length-take, slice_index_or, take}
use Rattle.numbers.proofs.Digits.{digits_at_most_10}
use Rattle.history.proofs.ShownFits.{lamps_short}
use Rattle.history.proofs.shown.put_lamps.Goals as goal

pub push-requires : goal.push-requires
push-requires g c =
    let lamps = take c.loop-lamp.lamp-index c.args.lamps.now in
    let short = lamps_short c.args.out.now.items lamps c.loop-lamp.invariant in
    (omega arith, omega (arith, short, length-take c.loop-lamp.lamp-index c.args.lamps.now))

pub put_number-requires : goal.put_number-requires
put_number-requires g c =
    let lamps = take c.loop-lamp.lamp-index c.args.lamps.now in
    let short = lamps_short c.args.out.now.items lamps c.loop-lamp.invariant in
    let digit = digits_at_most_10 (slice_index_or c.args.lamps.now c.loop-lamp.lamp-index 0) in
    (omega arith, omega (arith, short, digit, length-take c.loop-lamp.lamp-index c.args.lamps.now))
