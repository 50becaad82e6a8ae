-- Up to i, each place of the list has the difference there.
use Rattle.std.proofs.Common.{◌≡◌, ◌++◌, take, drop}
use Rattle.service.specs.Differences.{differences}
use Rattle.service.proofs.put_differences.Given as goal

abbrev pub invariant-loop-i : goal.invariant-loop-i
invariant-loop-i l = l.out ≡ differences (take l.i l.readings) ++ drop l.i l.initial.out
