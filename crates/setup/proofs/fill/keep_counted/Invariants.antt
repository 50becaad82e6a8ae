use Rattle.record.specs.Wanted.{counted_in}
use Rattle.record.proofs.CountedNames.{CountedTo}
use Rattle.record.proofs.NamesTold.{NamesCopied}
use Rattle.setup.proofs.fill.keep_counted.Given as goal

abbrev pub invariant-loop-i : goal.invariant-loop-i
invariant-loop-i l = CountedTo l.count l.bytes l.left l.i × NamesCopied (counted_in l.count l.bytes) l.list l.i
