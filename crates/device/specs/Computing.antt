-- One name that opens this crate's definitions, for computing on concrete records only (RULES, Commands).
-- Assumes nothing.
use Rattle.device.specs.Answering.{line_answer}
use Rattle.device.specs.Receiving.{is_match, line_ended, keeping_line, taken_in}
use Rattle.device.specs.Calls.{received_at, greeting, new_connection, opened_by, closed_by}

unfoldable pub computing : Unit {0}
unfolding line_answer is_match line_ended keeping_line taken_in received_at greeting new_connection opened_by
    closed_by
computing = tt
