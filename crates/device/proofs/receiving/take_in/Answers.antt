use Rattle.std.proofs.Common.{arith}
use Rattle.stream.proofs.GatheredOn.{gathered_from-ended}
use Rattle.device.proofs.receiving.take_in.Goals as goal

pub overflow_add-result : goal.overflow_add-result
overflow_add-result c = grind (arith, gathered_from-ended)
