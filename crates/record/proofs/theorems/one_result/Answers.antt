use Rattle.std.proofs.Common.{arith}
use Rattle.record.proofs.theorems.one_result.Goals as goal

pub returns : goal.returns
returns c = grind arith
