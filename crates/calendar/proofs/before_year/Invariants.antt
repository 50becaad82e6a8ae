use Rattle.std.proofs.Common.{◌≡◌, ◌*◌, ◌≤◌}
use Rattle.calendar.specs.Days.{before_year}
use Rattle.calendar.proofs.before_year.Given as goal

abbrev pub invariant-loop-y : goal.invariant-loop-y
invariant-loop-y l = record {
  number : l.days ≡ before_year l.y;
  bound : l.days ≤ l.y * 366;
}
