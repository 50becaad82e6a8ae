-- One to ten bytes are read as a number, which decides.
use Rattle.std.proofs.Common.{arith}
use Rattle.numbers.proofs.ReadBack.{digits_told, digits_untold}
use Rattle.floorlog.proofs.Forms.{seconds_no_digit, seconds_over, seconds_passes}
use Rattle.floorlog.proofs.line.seconds_said.Goals as goal

pub returns-in-Some : goal.returns-in-Some
returns-in-Some c = grind (arith, digits_told, seconds_passes)

pub returns-in_default : goal.returns-in_default
returns-in_default c = grind (arith, digits_told, digits_untold, seconds_over, seconds_no_digit)
