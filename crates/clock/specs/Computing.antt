-- One name that opens this crate's definitions, for computing on concrete records only (RULES, Commands).
-- Assumes nothing.
use Rattle.clock.specs.Second.{times, changed_where, one_more, own_second, connection_second, second}
use Rattle.clock.specs.Passing.{time_passed}

unfoldable pub computing : Unit {0}
unfolding times changed_where one_more own_second connection_second second time_passed
computing = tt
