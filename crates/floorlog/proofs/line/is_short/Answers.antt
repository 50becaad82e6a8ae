use Rattle.std.proofs.Common.{arith}
use Rattle.floorlog.proofs.line.is_short.Goals as goal

pub returns : goal.returns
returns c = grind arith
