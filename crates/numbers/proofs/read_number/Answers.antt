-- Five digits are no more than a u32 can hold.
use Rattle.std.proofs.Common.{arith}
use Rattle.numbers.proofs.ReadBack.{digits_below}
use Rattle.numbers.proofs.read_number.Goals as goal

pub overflow_cast-result : goal.overflow_cast-result
overflow_cast-result c = grind (arith, digits_below)
