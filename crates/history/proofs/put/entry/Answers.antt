use Rattle.std.proofs.Common.{arith}
use Rattle.lent.proofs.Writing.{puts_as, puts_then}
use Rattle.history.specs.Entries.{entry_text}
use Rattle.history.proofs.put.entry.Goals as goal

pub returns-in-Header : goal.returns-in-Header
unfolding entry_text
returns-in-Header c =
    puts_as (grind (arith, c.in-Header.is)) (puts_then c.bytes.ensures c.summed.ensures.written) c.time.ensures

pub returns-in-Stated : goal.returns-in-Stated
unfolding entry_text
returns-in-Stated c =
    puts_as (grind (arith, c.in-Stated.is)) (puts_then c.bytes-in-Stated.ensures c.summed-in-Stated.ensures.written)
    c.ending.ensures
