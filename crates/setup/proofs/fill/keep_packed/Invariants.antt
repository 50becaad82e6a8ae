use Rattle.record.specs.Wanted.{names_in}
use Rattle.record.proofs.CutNames.{CutTo}
use Rattle.record.proofs.NamesTold.{NamesCopied}
use Rattle.setup.proofs.fill.keep_packed.Given as goal

abbrev pub invariant-loop-i : goal.invariant-loop-i
invariant-loop-i l = CutTo l.lengths l.bytes l.at l.i × NamesCopied (names_in l.lengths l.bytes) l.list l.i
