use Rattle.std.proofs.Common.{arith}
use Rattle.lent.proofs.Writing.{puts_none, puts_as}
use Rattle.stored.proofs.Writing.{no_texts, texts_bytes-take}
use Rattle.stored.proofs.putting.names.Goals as goal

pub loop-name-init : goal.loop-name-init
loop-name-init c = (rw no_texts (puts_none _), omega arith)

pub loop-name-preserved : goal.loop-name-preserved
loop-name-preserved c = (
  puts_as (texts_bytes-take _ _ _ c.loop-name-test.true) c.loop-name.invariant.0 c.input_name.ensures.written,
  omega arith,
)
