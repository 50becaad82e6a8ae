-- One name that opens this crate's definitions, for computing on concrete days only (RULES, Floor log).
-- Assumes nothing.
use Rattle.calendar.specs.Days.{before_year, before_month, date_after}
use Rattle.calendar.specs.Moments.{two_in, moment_of, moment_in}

unfoldable pub computing : Unit {0}
unfolding before_year before_month date_after two_in moment_of moment_in
computing = tt
