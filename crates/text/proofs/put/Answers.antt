-- A turn is one byte more of the run of stores.
use Rattle.std.proofs.Common.{arith}
use Rattle.text.proofs.Stores.{sets_more}
use Rattle.text.proofs.put.Goals as goal

pub loop-i-preserved : goal.loop-i-preserved
loop-i-preserved c = sets_more _ _ _ _ _ (omega arith) c.loop-i.invariant
