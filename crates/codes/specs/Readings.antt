-- What the readers return, as numbers (include/ceiling.h). What a kind does not use is zero.
--   flat_greeting g    the greeting g: kind 1 PJLINK 0, 2 PJLINK 1 with its random number, 3 ERRA, 0 none
--   said_flat m        what m says: kinds 1 to 10, and 12 a freeze (RULES, Class 2)
--   flat_reading r     what the reply reader returned: kind 11 is ERRA, kind 0 says nothing
-- Assumes nothing.
use Rattle.std.specs.Prelude.{ℕ, Bool, false, List, map, length, replicate, Option, None, Some}
use Rattle.text.specs.InTurn.{each_in_turn}
use Rattle.text.specs.Rooms.{filled_room}
use Rattle.words.specs.Classes.{class_as_number}
use Rattle.words.specs.Inputs.{input_text}
use Rattle.words.specs.declared.input.Input.{Input}
use Rattle.pjlink.specs.Said.{Said, okay, refused, power_is, chosen_is, mutes_are, errors_are, lamps_are, inputs_are}
use Rattle.pjlink.specs.Said.{text_is, class_is, freeze_is, nothing, parameter_most}
use Rattle.words.specs.declared.power.PowerStatus.{PowerStatus}
use Rattle.words.specs.declared.power.PowerStatus.TheVariants.{Off, On, Cooling, WarmUp}
use Rattle.words.specs.declared.lamp.LampHours.{LampHours}
use Rattle.pjlink.specs.Greetings.{greeting_number}
use Rattle.controller.specs.Reading.{ReadAs, ReadingOutcome, means_it, erra_said, disallowed, reading_outcome_number}
use Rattle.pjlink.specs.declared.greeting.Greeting.{Greeting}
use Rattle.pjlink.specs.declared.greeting.Greeting.TheVariants.{Open, Secured, Refused}
use Rattle.codes.specs.Commands.{bit, source_number}
use Rattle.codes.specs.declared.lists.FlatLamps.{FlatLamps}
use Rattle.codes.specs.declared.readings.FlatGreeting.{FlatGreeting}
use Rattle.codes.specs.declared.readings.FlatReading.{FlatReading}

abbrev pub greeting_kind : Option Greeting → ℕ
greeting_kind (Some Open) = 1
greeting_kind (Some (Secured r)) = 2
greeting_kind (Some Refused) = 3
greeting_kind None = 0

abbrev pub greeting_random : Option Greeting → ℕ
greeting_random (Some (Secured r)) = r
greeting_random g = 0

abbrev pub flat_greeting : Option Greeting → FlatGreeting
flat_greeting g = record { number = greeting_number g; kind = greeting_kind g; random = greeting_random g }

abbrev pub no_hours : List ℕ
no_hours = replicate 8 0

abbrev pub none_lit : List Bool
none_lit = replicate 8 false

abbrev pub no_characters : List ℕ
no_characters = replicate 64 0

abbrev pub no_bytes : List ℕ
no_bytes = replicate parameter_most 0

abbrev pub flat_of : (number kind first second count : ℕ) (hours : List ℕ) (lit : List Bool) (inputs text : List ℕ)
    → FlatReading
flat_of number kind first second count hours lit inputs text = record {
  number = number;
  kind = kind;
  first = first;
  second = second;
  count = count;
  hours = hours;
  lit = lit;
  inputs = inputs;
  text = text;
}

abbrev pub no_reading : ℕ → FlatReading
no_reading n = flat_of n 0 0 0 0 no_hours none_lit no_characters no_bytes

abbrev pub plain_reading : (kind first second : ℕ) → FlatReading
plain_reading kind first second = flat_of 0 kind first second 0 no_hours none_lit no_characters no_bytes

abbrev pub with_text : ℕ → List ℕ → FlatReading
with_text kind s = flat_of 0 kind 0 0 (length s) no_hours none_lit no_characters (filled_room 0 parameter_most s)

abbrev pub hours_of : LampHours → ℕ
hours_of l = l.hours

abbrev pub is_lit_lamp : LampHours → Bool
is_lit_lamp l = l.lit

-- the lamps in their rooms, of which all past the lamps is zero
abbrev pub flat_lamps : List LampHours → FlatLamps
flat_lamps ls = record {
  count = length ls;
  hours = filled_room 0 8 (map hours_of ls);
  lit = filled_room false 8 (map is_lit_lamp ls);
}

abbrev pub with_lamps : List LampHours → FlatReading
with_lamps ls = let f = flat_lamps ls in flat_of 0 7 0 0 f.count f.hours f.lit no_characters no_bytes

-- two characters for each input
abbrev pub characters : List Input → List ℕ
characters is = each_in_turn input_text is

abbrev pub with_inputs : List Input → FlatReading
with_inputs is = flat_of 0 8 0 0 (length is) no_hours none_lit (filled_room 0 64 (characters is)) no_bytes

abbrev pub power_at_face : PowerStatus → ℕ
power_at_face Off = 0
power_at_face On = 1
power_at_face Cooling = 2
power_at_face WarmUp = 3

abbrev pub said_flat : Said → FlatReading
said_flat okay = plain_reading 1 0 0
said_flat (refused n) = plain_reading 2 n 0
said_flat (power_is p) = plain_reading 3 (power_at_face p) 0
said_flat (chosen_is i) = plain_reading 4 (source_number i.source) i.number
said_flat (mutes_are video audio) = plain_reading 5 (bit video) (bit audio)
said_flat (errors_are ds) = with_text 6 ds
said_flat (lamps_are ls) = with_lamps ls
said_flat (inputs_are is) = with_inputs is
said_flat (text_is s) = with_text 9 s
said_flat (class_is k) = plain_reading 10 (class_as_number k) 0
said_flat (freeze_is on) = plain_reading 12 (bit on) 0
said_flat nothing = no_reading (reading_outcome_number disallowed)

abbrev pub flat_as : ReadingOutcome → Said → FlatReading
flat_as means_it m = said_flat m
flat_as erra_said m = plain_reading 11 0 0
flat_as o m = no_reading (reading_outcome_number o)

abbrev pub flat_reading : ReadAs → FlatReading
flat_reading r = flat_as r.outcome r.said
