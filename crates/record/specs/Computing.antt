-- One name that opens this crate's definitions and, by their own name, those of `text` and `words`, for computing on
-- concrete records only (RULES, Commands).
-- Assumes nothing.
use Rattle.text.specs.Computing.{computing as text}
use Rattle.words.specs.Computing.{computing as words}
use Rattle.record.specs.Rules.{is_set_up_password, are_pairs, is_none, is_inputs, is_lamps, is_marks, is_error_list}
use Rattle.record.specs.Rules.{are_names}
use Rattle.record.specs.Record.{in_room, names_kept, closed, all_marks, start_device, blank}
use Rattle.record.specs.Legal.{fills_room, is_names, is_class_2_part, is_settings, is_left, is_own}
use Rattle.record.specs.Legal.{is_age, held_most, is_held, is_connection, is_connections, is_legal}
use Rattle.record.specs.Places.{lowest_closed}
use Rattle.record.specs.SetUp.{is_in_range, is_set_up, set_up}
use Rattle.record.specs.HostCalls.{fault_set, errors_set, mark_set}

unfoldable pub computing : Unit {0}
unfolding
    text words is_set_up_password are_pairs is_none is_inputs is_lamps is_marks is_error_list are_names in_room
    names_kept closed
    all_marks start_device blank fills_room is_names is_class_2_part is_settings is_left is_own is_age held_most is_held
    is_connection
    is_connections is_legal is_in_range is_set_up set_up lowest_closed fault_set errors_set mark_set
computing = tt
