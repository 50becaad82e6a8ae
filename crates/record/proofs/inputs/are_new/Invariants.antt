use Rattle.record.proofs.Marks.{IsBacked}
use Rattle.record.proofs.inputs.are_new.Given as goal

abbrev pub invariant-loop-j : goal.invariant-loop-j
invariant-loop-j l = IsBacked l.class l.s l.seen l.ok l.j
