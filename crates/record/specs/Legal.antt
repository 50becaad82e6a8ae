-- A legal record (RULES, The legal record, last paragraph), a definition a part: settings alone, the own part with the
-- settings, each connection alone. An array of a record is a list of any length here, so each part says its arrays'
-- lengths.
--   fills_room room rule s n     the array s has that room; its first n places follow the rule, the rest is zero
--   fills_text_room rule t       a text follows the rule
--   fills_name_room most t       the name of an input has at most so many bytes
--   is_names n ns             the first n places have a name each (RULES, Class 2), the others none
--   is_class_2_part ..           what Class 2 alone has is in range: in Class 1 it is empty
--   is_settings s             the settings are in range
--   is_left power left w c    seconds left: 1 to w in warm-up, 1 to c in cooling, else 0
--   is_own s o                the own part is legal under the settings s
--   is_timed, is_collecting   the phases in which a connection ages; in which it collects bytes
--   is_age phase age          0 to 29 in a phase that ages, else 0
--   held_most phase           the most collected bytes: 167 while awaiting, 135 while open, none otherwise
--   is_held phase mark n      n bytes may be collected: none under the overlong mark, which stands in those phases only
--   is_connection c           the connection is legal
--   is_connections cs         a connection at each place, each legal (RULES, Places)
--   is_legal d                the record is
-- Assumes nothing.
use Rattle.std.specs.List.{list_all}
use Rattle.std.specs.Prelude.{ℕ, ◌*◌, Bool, not, ◌&&◌, ◌||◌, List, length, if◌then◌else◌, nat_le, nat_lt, ◌==◌}
use Rattle.words.specs.Bytes.{is_cr_free, command_most}
use Rattle.words.specs.Texts.{is_text, is_name, is_info, info_most, input_name_most}
use Rattle.text.specs.Flags.{is_flag, is_raised}
use Rattle.text.specs.Rooms.{used_part, holds}
use Rattle.record.specs.Limits.{text_room, listed_most, input_room, lamps_most, line_room, age_end, places_count}
use Rattle.record.specs.Limits.{only_in_2, cooling, warming, phase_closed, phase_awaiting, phase_open, phase_failed}
use Rattle.record.specs.Limits.{is_power, is_phase}
use Rattle.record.specs.Rules.{is_set_up_password, is_inputs, is_lamps, is_marks, is_transition, is_error_list}
use Rattle.record.specs.Rules.{is_volume}
use Rattle.record.specs.declared.types.Text.{Text}
use Rattle.record.specs.declared.types.InputName.{InputName}
use Rattle.record.specs.declared.types.Settings.{Settings}
use Rattle.record.specs.declared.types.Own.{Own}
use Rattle.record.specs.declared.types.Connection.{Connection}
use Rattle.record.specs.declared.types.Device.{Device}

abbrev pub is_zero : ℕ → Bool
is_zero x = x == 0

unfoldable pub fills_room : ℕ → (List ℕ → Bool) → List ℕ → ℕ → Bool
fills_room room rule s n = holds rule (used_part is_zero room s n)

abbrev pub fills_text_room : (List ℕ → Bool) → Text → Bool
fills_text_room rule t = fills_room text_room rule t.bytes t.len

abbrev pub fills_name_room : ℕ → InputName → Bool
fills_name_room most t = fills_room input_name_most (is_text most) t.bytes t.len

unfoldable pub is_names : ℕ → List InputName → Bool
is_names n ns =
    holds (list_all (fills_name_room input_name_most)) (used_part (fills_name_room 0) listed_most ns n)

unfoldable pub is_class_2_part : (class inputs : ℕ) (serial version : Text) (names : List InputName) → Bool
is_class_2_part class inputs serial version names =
    fills_text_room (is_text (only_in_2 class info_most)) serial
    && fills_text_room (is_text (only_in_2 class info_most)) version
    && is_names (only_in_2 class inputs) names

unfoldable pub is_settings : Settings → Bool
is_settings s =
    fills_text_room is_name s.name && fills_text_room is_info s.maker && fills_text_room is_info s.model
    && fills_text_room is_info s.other && fills_text_room is_set_up_password s.password
    && fills_room input_room (is_inputs s.class_number) s.inputs (2 * s.input_count)
    && nat_le s.lamp_count lamps_most && is_transition s.warm && is_transition s.cool
    && is_class_2_part s.class_number s.input_count s.serial s.version s.names

unfoldable pub is_left : ℕ → ℕ → ℕ → ℕ → Bool
is_left power left warm cool =
    if power == warming then nat_le 1 left && nat_le left warm
    else if power == cooling then nat_le 1 left && nat_le left cool
    else is_power power && left == 0

-- the chosen input is listed: its place is one of the list's
unfoldable pub is_own : Settings → Own → Bool
is_own s o =
    is_error_list o.errors && fills_room lamps_most is_lamps o.lamps s.lamp_count
    && is_marks s.lamp_count o.enabled && is_left o.power o.left s.warm s.cool
    && nat_lt o.chosen s.input_count && is_volume o.speaker && is_volume o.microphone
    && is_flag o.video_muted && is_flag o.audio_muted && is_flag o.fault && is_flag o.frozen

abbrev pub is_timed : ℕ → Bool
is_timed phase = phase == phase_awaiting || phase == phase_failed

abbrev pub is_collecting : ℕ → Bool
is_collecting phase = phase == phase_awaiting || phase == phase_open

unfoldable pub is_age : ℕ → ℕ → Bool
is_age phase age = if is_timed phase then nat_lt age age_end else age == 0

unfoldable pub held_most : ℕ → ℕ
held_most phase = if phase == phase_awaiting then line_room else if phase == phase_open then command_most else 0

unfoldable pub is_held : ℕ → Bool → ℕ → Bool
is_held phase mark n = if mark then is_collecting phase && n == 0 else nat_le n (held_most phase)

unfoldable pub is_connection : Connection → Bool
is_connection c =
    fills_room line_room is_cr_free c.line.bytes c.line.held
    && is_phase c.phase && is_age c.phase c.age
    && (not (c.phase == phase_closed) || c.random == 0)
    && is_flag c.line.overlong && is_held c.phase (is_raised c.line.overlong) c.line.held

unfoldable pub is_connections : List Connection → Bool
is_connections cs = length cs == places_count && list_all is_connection cs

unfoldable pub is_legal : Device → Bool
is_legal d = is_settings d.settings && is_own d.settings d.own && is_connections d.connections
