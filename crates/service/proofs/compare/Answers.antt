use Rattle.std.proofs.Common.{arith}
use Rattle.service.proofs.compare.Goals as goal

pub returns-then-out-readings-clause-told : goal.returns-then-out-readings-clause-told
returns-then-out-readings-clause-told c = (omega arith, omega arith)
