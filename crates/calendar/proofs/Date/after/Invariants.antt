use Rattle.std.proofs.Common.{◌≡◌}
use Rattle.calendar.specs.Days.{date_after}
use Rattle.calendar.proofs.Date.after.Given as goal

abbrev pub invariant-loop-n : goal.invariant-loop-n
invariant-loop-n l = l.date ≡ date_after l.fn.self l._n
