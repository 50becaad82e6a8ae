-- One to ten bytes with no zero before them are read as a number, which decides.
use Rattle.std.proofs.Common.{arith}
use Rattle.numbers.proofs.ReadBack.{digits_told, digits_untold}
use Rattle.history.proofs.Numbers.{number_no_digit, number_over, number_read}
use Rattle.history.proofs.read.decimal_in.Goals as goal

pub returns-in-Some : goal.returns-in-Some
returns-in-Some c = grind (arith, digits_told, number_read)

pub returns-in_default : goal.returns-in_default
returns-in_default c = grind (arith, digits_told, digits_untold, number_over, number_no_digit)

pub returns-in_default-2 : goal.returns-in_default-2
returns-in_default-2 c = grind (arith, digits_told, digits_untold, number_over, number_no_digit)
