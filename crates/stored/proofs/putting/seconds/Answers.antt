use Rattle.std.proofs.Common.{arith}
use Rattle.lent.proofs.Writing.{puts_none, puts_as}
use Rattle.stored.proofs.Writing.{no_seconds, seconds_bytes-take}
use Rattle.stored.proofs.putting.seconds.Goals as goal

pub loop-x-init : goal.loop-x-init
loop-x-init c = (rw no_seconds (puts_none _), omega arith)

pub loop-x-preserved : goal.loop-x-preserved
loop-x-preserved c = (
  puts_as (grind (arith, seconds_bytes-take, c.four_bytes.ensures)) c.loop-x.invariant.0 c.bytes.ensures,
  omega arith,
)
