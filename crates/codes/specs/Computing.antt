-- One name that opens this crate's definitions, for computing on concrete records only (RULES, Commands).
-- Assumes nothing.
use Rattle.codes.specs.Commands.{switch_at, source_at, input_at, half_at, coded_command, used_of}

unfoldable pub computing : Unit {0}
unfolding switch_at source_at input_at half_at coded_command used_of
computing = tt
