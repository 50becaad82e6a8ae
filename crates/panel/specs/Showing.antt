-- What an accepted reply shows (RULES, Panel): an OK or an error changes no reading, and the panel shows the last
-- accepted one.
--   with_power_shown, with_input_shown, with_lamps_shown   what is shown, and this reading as known
--   showing s m          what is shown after a reply that says m: a power, an input or lamps are shown; anything else
--                        changes nothing
-- Assumes nothing.
use Rattle.std.specs.Prelude.{ℕ, false, List, map, length}
use Rattle.text.specs.Flags.{flag_of}
use Rattle.pjlink.specs.Said.{Said, power_is, chosen_is, lamps_are}
use Rattle.pjlink.specs.Carried.{lamps_carried}
use Rattle.codes.specs.Commands.{source_number}
use Rattle.text.specs.Rooms.{filled_room}
use Rattle.codes.specs.Readings.{hours_of, is_lit_lamp, power_at_face}
use Rattle.panel.specs.Entries.{Shown}

module _ (s : Shown) where
  abbrev pub with_power_shown : ℕ → Shown
  with_power_shown p = record {
    power_known = 1;
    input_known = s.input_known;
    lamps_known = s.lamps_known;
    power = p;
    input_type = s.input_type;
    input_number = s.input_number;
    lamp_count = s.lamp_count;
    hours = s.hours;
    lit = s.lit;
  }

  abbrev pub with_input_shown : (type number : ℕ) → Shown
  with_input_shown type number = record {
    power_known = s.power_known;
    input_known = 1;
    lamps_known = s.lamps_known;
    power = s.power;
    input_type = type;
    input_number = number;
    lamp_count = s.lamp_count;
    hours = s.hours;
    lit = s.lit;
  }

  abbrev pub with_lamps_shown : (count : ℕ) (hours : List ℕ) (lit : List ℕ) → Shown
  with_lamps_shown count hours lit = record {
    power_known = s.power_known;
    input_known = s.input_known;
    lamps_known = 1;
    power = s.power;
    input_type = s.input_type;
    input_number = s.input_number;
    lamp_count = count;
    hours = hours;
    lit = lit;
  }

  abbrev pub showing : Said → Shown
  showing (power_is p) = with_power_shown (power_at_face p)
  showing (chosen_is i) = with_input_shown (source_number i.source) i.number
  showing (lamps_are ls) = with_lamps_shown (length ls) (filled_room 0 lamps_carried (map hours_of ls))
      (map flag_of (filled_room false lamps_carried (map is_lit_lamp ls)))
  showing m = s
