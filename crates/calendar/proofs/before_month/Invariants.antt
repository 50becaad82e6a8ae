use Rattle.std.proofs.Common.{◌≡◌, ◌-◌, ◌*◌, ◌≤◌}
use Rattle.calendar.specs.Days.{before_month}
use Rattle.calendar.proofs.before_month.Given as goal

abbrev pub invariant-loop-m : goal.invariant-loop-m
invariant-loop-m l = record {
  number : l.days ≡ before_month l.year (l.m - 1);
  bound : l.days ≤ l.m * 31;
}
