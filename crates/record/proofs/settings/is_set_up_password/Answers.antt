use Rattle.std.proofs.Common.{arith}
use Rattle.record.specs.Rules.{is_set_up_password}
use Rattle.record.proofs.settings.is_set_up_password.Goals as goal

pub returns-then-is_password : goal.returns-then-is_password
unfolding is_set_up_password
returns-then-is_password c = grind arith
