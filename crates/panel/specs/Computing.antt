-- One name that opens this crate's definitions, for computing on concrete records only (RULES, Commands).
-- Assumes nothing.
use Rattle.panel.specs.Stepping.{heard_line, command_sent}
use Rattle.panel.specs.LegalPanels.{is_command_kept, is_talk, is_power_shown, is_input_shown, is_lamp_count}
use Rattle.panel.specs.LegalPanels.{is_lit_room, shows_lamps, is_shown, is_entry, is_unused, is_panel}
use Rattle.panel.specs.Hearing.{line_heard}
use Rattle.panel.specs.PanelCalls.{added_to, command_at, stepped_at, lost_at}

unfoldable pub computing : Unit {0}
unfolding
    heard_line command_sent is_command_kept is_talk is_power_shown is_input_shown is_lamp_count is_lit_room shows_lamps
    is_shown
    is_entry is_unused is_panel added_to command_at line_heard stepped_at lost_at
computing = tt
