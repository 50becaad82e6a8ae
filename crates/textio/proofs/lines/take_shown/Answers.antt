-- what is read ahead, with its LF, is what is taken
use Rattle.std.proofs.Common.{arith, take_all, append-nil}
use Rattle.std.proofs.lemmas.List.{take_more}
use Rattle.textio.proofs.Known.{appended_front, kept_then_consumed}
use Rattle.textio.proofs.lines.take_shown.Goals as goal

pub returns-then-end-count-clause-ok : goal.returns-then-end-count-clause-ok
returns-then-end-count-clause-ok g c = grind (arith, take_more, kept_then_consumed, appended_front)

pub returns-clause-ok : goal.returns-clause-ok
returns-clause-ok g c = grind (arith, take_all, append-nil, kept_then_consumed, appended_front)
