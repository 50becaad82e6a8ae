use Rattle.std.proofs.Common.{arith}
use Rattle.pjlink.proofs.reply.may_refuse.Goals as goal

pub returns-else-has_own_parameter : goal.returns-else-has_own_parameter
returns-else-has_own_parameter c = grind arith
