-- One name that opens this crate's definitions, for computing on concrete records only (RULES, Commands).
-- Assumes nothing.
use Rattle.controller.specs.Writing.{written_command}
use Rattle.controller.specs.Reading.{read_reply}

unfoldable pub computing : Unit {0}
unfolding written_command read_reply
computing = tt
