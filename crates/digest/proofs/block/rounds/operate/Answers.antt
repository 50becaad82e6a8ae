-- Word and constant come as their sum, and the function in two parts.
use Rattle.std.proofs.Common.{arith}
use Rattle.digest.proofs.Sums.{operated}
use Rattle.digest.proofs.block.rounds.operate.Goals as goal

pub returns : goal.returns
returns c xs sums =
    let by_sum =
    operated xs c.args.sums.now c.args.i c.args.q sums c.requires _ _ c.wrapping_add_u32-sum-2.result
    c.rotate_left.result c.wrapping_add_u32-2.result c.function-early.ensures in
    grind (arith, by_sum)
