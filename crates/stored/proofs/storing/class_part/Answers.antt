-- Each part stands after the one before it.
use Rattle.std.proofs.Common.{arith, append-nil}
use Rattle.text.proofs.Scanning.{list_all_at}
use Rattle.record.proofs.FactsTold.{fills_told}
use Rattle.lent.proofs.Writing.{puts_then, puts_as}
use Rattle.stored.proofs.storing.class_part.Goals as goal

pub returns-then-s-ne2 : goal.returns-then-s-ne2
returns-then-s-ne2 c = grind arith

pub names-requires-clause-inside : goal.names-requires-clause-inside
names-requires-clause-inside c = grind (arith, fills_told, list_all_at)

pub returns : goal.returns
returns c =
    puts_as (grind (arith, c.if-s-ne2.false, append-nil)) c.byte.ensures
    (puts_then c.text.ensures.written (puts_then c.text-2.ensures.written c.names.ensures))
