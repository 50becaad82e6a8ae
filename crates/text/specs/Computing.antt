-- One name that opens this crate's definitions, for computing on concrete records only (RULES, Commands).
-- Assumes nothing.
use Rattle.text.specs.Rooms.{used_part}

unfoldable pub computing : Unit {0}
unfolding used_part
computing = tt
