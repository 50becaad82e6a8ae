-- One name that opens this crate's definitions, for computing on concrete logs only (RULES, Floor log).
-- Assumes nothing.
use Rattle.floorlog.specs.Events.{random_said, seconds_said, form_said, event}
use Rattle.floorlog.specs.Doing.{opened_in_log, event_result, printed_line}
use Rattle.floorlog.specs.LastLine.{last_line_of}
use Rattle.floorlog.specs.Playing.{state_after, lines_printed, sample_device, replay_text}

unfoldable pub computing : Unit {0}
unfolding random_said seconds_said form_said event opened_in_log event_result printed_line last_line_of state_after
    lines_printed sample_device replay_text
computing = tt
