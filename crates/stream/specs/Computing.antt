-- One name that opens this crate's definitions, for computing on concrete records only (RULES, Commands).
-- Assumes nothing.
use Rattle.stream.specs.Collecting.{empty_line, overlong_line, collected_in, gathered_from}
use Rattle.stream.specs.Machine.{up_to, handed_rest, handed_parts, stream_of}

unfoldable pub computing : Unit {0}
unfolding empty_line overlong_line collected_in gathered_from up_to handed_rest handed_parts stream_of
computing = tt
