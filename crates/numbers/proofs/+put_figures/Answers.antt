-- The digits of the quotient stand there, and the last goes after them.
use Rattle.std.proofs.Common.{arith, append_assoc, length-append}
use Rattle.numbers.proofs.Digits.{long_high, long_length_high}
use Rattle.numbers.proofs.+put_figures.Goals as goal

pub put_figures-requires : goal.put_figures-requires
put_figures-requires t c = (omega arith, omega (arith, long_length_high))

pub push-requires-else-n-lt10 : goal.push-requires-else-n-lt10
push-requires-else-n-lt10 t c = grind (arith, length-append, long_length_high)

pub returns-else-n-lt10 : goal.returns-else-n-lt10
returns-else-n-lt10 t c = grind (arith, long_high, append_assoc)
