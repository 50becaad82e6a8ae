use Rattle.std.proofs.Common.{refl, arith}
use Rattle.board.proofs.Zipping.{put_more, put_all}
use Rattle.board.proofs.lists.put_readings.Goals as goal

pub loop-k-preserved : goal.loop-k-preserved
loop-k-preserved c = put_more _ _ c.loop-k.invariant refl (omega arith)

pub returns : goal.returns
returns c =
    let put = put_all _ _ c.loop-k.invariant (omega arith) in
    record { filled = put.filled; rest = put.rest }
