-- One name that opens this crate's definitions, for computing on concrete records only (RULES, Commands).
-- Assumes nothing.
use Rattle.numbers.specs.Decimal.{digits, long_digits, read_digits, read_number}
use Rattle.numbers.specs.HighestFirst.{highest_first}

unfoldable pub computing : Unit {0}
unfolding digits long_digits read_digits read_number highest_first
computing = tt
