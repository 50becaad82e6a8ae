use Rattle.std.proofs.Common.{arith}
use Rattle.lent.proofs.Writing.{puts_as, puts_then}
use Rattle.history.proofs.put.summed.Goals as goal

pub returns-clause-written : goal.returns-clause-written
returns-clause-written c =
    puts_as (grind (arith, c.hex8.ensures)) (puts_then c.number.ensures c.byte.ensures) c.bytes.ensures
