use Rattle.std.proofs.Common.{arith}
use Rattle.lent.proofs.Writing.{puts_as}
use Rattle.history.specs.Lines.{call_text}
use Rattle.history.proofs.put.call.Goals as goal

pub returns-in-Opens : goal.returns-in-Opens
unfolding call_text
returns-in-Opens c =
    puts_as (grind (arith, c.in-Opens.is, c.hex8.ensures)) c.placed.ensures c.bytes.ensures
