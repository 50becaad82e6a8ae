use Rattle.std.proofs.Common.{sym}
use Rattle.numbers.proofs.Reading.{no_digit, digits_read}
use Rattle.numbers.proofs.read_digits.Goals as goal

pub returns-then-not-is_digit : goal.returns-then-not-is_digit
returns-then-not-is_digit c = sym (no_digit _ c.loop-b.invariant c.loop-b-test.true (cc))

pub returns : goal.returns
returns c = sym (digits_read _ c.loop-b.invariant c.loop-b-test.false)
