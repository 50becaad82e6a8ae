-- The digits up to the index are put.
use Rattle.std.proofs.Common.{◌≡◌, ◌++◌, take}
use Rattle.numbers.specs.Decimal.{long_digits}
use Rattle.numbers.proofs.put_long.Given as goal

abbrev pub invariant-loop-b : goal.invariant-loop-b
invariant-loop-b g l = l.out.items ≡ l.fn.out.items ++ take l.b-index (long_digits l.number)
