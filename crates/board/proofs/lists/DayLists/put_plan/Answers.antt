use Rattle.std.proofs.Common.{arith}
use Rattle.board.proofs.Zipping.{put_more, put_all}
use Rattle.board.proofs.lists.DayLists.put_plan.Goals as goal

pub loop-j-preserved : goal.loop-j-preserved
loop-j-preserved c = put_more _ _ c.loop-j.invariant (cc) (omega arith)

pub returns : goal.returns
returns c =
    let put = put_all _ _ c.loop-j.invariant (omega arith) in
    record { filled = put.filled; rest = put.rest }
