use Rattle.std.proofs.Common.{arith, length-take}
use Rattle.device.proofs.LineCases.{match_long}
use Rattle.device.proofs.receiving.end_line.Goals as goal

pub split_at-requires : goal.split_at-requires
split_at-requires c = grind (arith, length-take, match_long)
