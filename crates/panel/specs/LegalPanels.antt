-- When a panel is legal, a definition for each part (docs/DECISIONS.md, "The panel"). An array of a record is a list of
-- any length here, so each part says its arrays' lengths.
--   is_talk t         the talk t has a greeting or none; a random number and a digest only of a secured one; a command
--                     under way only after a greeting, and one that the writer takes
--   is_power_shown, is_input_shown, shows_lamps   what is known is in the reader's range, what is not is zero
--   is_entry e        the entry e is legal: a password of 0 to 32 letters and digits, and at most 65,535 strays
--   is_unused e       nothing is kept in the entry e: if it is legal, all is zero (proofs/Unused)
--   is_panel p        the panel p has up to eight projectors, and the entries past them are unused
-- Assumes nothing.
use Rattle.std.specs.List.{list_all}
use Rattle.std.specs.Prelude.{ℕ, ◌==◌, Bool, not, ◌&&◌, ◌||◌, List, if◌then◌else◌, is_some, nat_le}
use Rattle.text.specs.Flags.{is_flag, is_lowered, is_raised}
use Rattle.text.specs.Rooms.{used_part, holds}
use Rattle.pjlink.specs.Carried.{lamps_carried}
use Rattle.words.specs.Numerals.{hours_most}
use Rattle.codes.specs.Commands.{coded_command}
use Rattle.codes.specs.declared.command.Coded.{Coded}
use Rattle.panel.specs.Entries.{Talk, Shown, talk_of, shown_of, ungreeted, greeted_secured, is_secured_talk}
use Rattle.panel.specs.Passwords.{is_password_kept}
use Rattle.panel.specs.Stepping.{strays_most}
use Rattle.panel.specs.declared.types.PanelEntry.{PanelEntry}
use Rattle.panel.specs.declared.types.Panel.{Panel}

abbrev pub panel_most : ℕ
panel_most = 8

abbrev pub is_none_coded : Coded → Bool
is_none_coded k = k.code == 0 && k.first == 0 && k.second == 0

unfoldable pub is_command_kept : Talk → Bool
is_command_kept t =
    if is_raised t.under_way then not (t.greeting == ungreeted) && is_some (coded_command t.command)
    else is_none_coded t.command

unfoldable pub is_talk : Talk → Bool
is_talk t =
    nat_le t.greeting greeted_secured && (is_secured_talk t || (t.random == 0 && is_lowered t.led))
    && is_flag t.led && is_flag t.under_way && is_command_kept t

unfoldable pub is_power_shown : Bool → ℕ → Bool
is_power_shown known power = if known then nat_le power 3 else power == 0

unfoldable pub is_input_shown : Bool → ℕ → ℕ → Bool
is_input_shown known type number =
    if known then nat_le 1 type && nat_le type 6 && nat_le 1 number && nat_le number 35
    else type == 0 && number == 0

unfoldable pub is_lamp_count : Bool → ℕ → Bool
is_lamp_count known count = if known then nat_le 1 count && nat_le count lamps_carried else count == 0

abbrev pub is_hours : List ℕ → Bool
is_hours hs = list_all (λ h. nat_le h hours_most) hs

abbrev pub is_hours_room : List ℕ → ℕ → Bool
is_hours_room hours count = holds is_hours (used_part (λ x. x == 0) lamps_carried hours count)

unfoldable pub is_lit_room : List ℕ → ℕ → Bool
is_lit_room lit count = is_some (used_part is_lowered lamps_carried lit count) && list_all is_flag lit

unfoldable pub shows_lamps : Bool → ℕ → List ℕ → List ℕ → Bool
shows_lamps known count hours lit =
    is_lamp_count known count && is_hours_room hours count && is_lit_room lit count

unfoldable pub is_shown : Shown → Bool
is_shown s =
    is_power_shown (is_raised s.power_known) s.power
    && is_input_shown (is_raised s.input_known) s.input_type s.input_number
    && shows_lamps (is_raised s.lamps_known) s.lamp_count s.hours s.lit
    && is_flag s.power_known && is_flag s.input_known && is_flag s.lamps_known

unfoldable pub is_entry : PanelEntry → Bool
is_entry e =
    is_password_kept e.password && is_talk (talk_of e) && is_shown (shown_of e) && nat_le e.strays strays_most

unfoldable pub is_unused : PanelEntry → Bool
is_unused e =
    e.password.len == 0 && e.greeting == ungreeted && is_lowered e.power_known && is_lowered e.input_known
    && is_lowered e.lamps_known && e.strays == 0

unfoldable pub is_panel : Panel → Bool
is_panel p = is_some (used_part is_unused panel_most p.entries p.count) && list_all is_entry p.entries
