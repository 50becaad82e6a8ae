-- The records that the rules spell out (RULES, The legal record).
--   zeros n              n zeros
--   in_room n s          s at the start of a room of n, and zeros after it
--   text_of s            the text s in its room
--   name_of s            the name s of an input in its room (RULES, Class 2)
--   names_kept ns        the names ns, an input each, at the start of the room for them
--   closed               the closed connection: age 0, random number 0, no collected bytes, no overlong mark
--   all_closed           every place closed (RULES, Places)
--   blank                the blank record, all zero
--   settings_of w        the settings that set-up keeps
--   all_marks n          the enabled marks of n lamps, all raised (RULES, Lamps)
--   blank_own            off, both mutes off, the first input, no fault, error status 000000, no mark: all zero
--   start_own lamps      the same, with the lamps' starting seconds, each lamp enabled, and both volumes half way
--   start_device w       the device that an accepted set-up gives
-- Assumes nothing.
use Rattle.std.specs.Prelude.{ℕ, ◌/◌, List, map, length, replicate}
use Rattle.text.specs.Rooms.{filled_room}
use Rattle.words.specs.Texts.{input_name_most}
use Rattle.record.specs.Limits.{text_room, input_room, listed_most, lamps_most, line_room}
use Rattle.record.specs.Limits.{errors_count, places_count, off, phase_closed, volume_start}
use Rattle.record.specs.Wanted.{Wanted}
use Rattle.record.specs.Updates.{with_seconds, with_marks, with_volumes}
use Rattle.record.specs.declared.types.Text.{Text}
use Rattle.record.specs.declared.types.InputName.{InputName}
use Rattle.record.specs.declared.types.Settings.{Settings}
use Rattle.record.specs.declared.types.Own.{Own}
use Rattle.record.specs.declared.types.Connection.{Connection}
use Rattle.record.specs.declared.types.Device.{Device}

abbrev pub zeros : ℕ → List ℕ
zeros n = replicate n 0

unfoldable pub in_room : ℕ → List ℕ → List ℕ
in_room n s = filled_room 0 n s

abbrev pub text_of : List ℕ → Text
text_of s = record { len = length s; bytes = in_room text_room s }

abbrev pub name_of : List ℕ → InputName
name_of s = record { len = length s; bytes = in_room input_name_most s }

abbrev pub blank_name : InputName
blank_name = record { len = 0; bytes = zeros input_name_most }

unfoldable pub names_kept : List (List ℕ) → List InputName
names_kept ns = filled_room blank_name listed_most (map name_of ns)

unfoldable pub closed : Connection
closed = record {
  phase = phase_closed;
  age = 0;
  random = 0;
  line = record { overlong = 0; held = 0; bytes = zeros line_room };
}

abbrev pub all_closed : List Connection
all_closed = replicate places_count closed

abbrev pub settings_of : Wanted → Settings
settings_of w = record {
  name = text_of w.name;
  maker = text_of w.maker;
  model = text_of w.model;
  other = text_of w.other;
  password = text_of w.password;
  input_count = length w.inputs / 2;
  inputs = in_room input_room w.inputs;
  lamp_count = length w.lamps;
  warm = w.warm;
  cool = w.cool;
  class_number = w.class;
  serial = text_of w.serial;
  version = text_of w.version;
  names = names_kept w.names;
}

abbrev pub blank_own : Own
blank_own = record {
  power = off;
  left = 0;
  chosen = 0;
  video_muted = 0;
  audio_muted = 0;
  fault = 0;
  errors = zeros errors_count;
  lamps = zeros lamps_most;
  enabled = zeros lamps_most;
  frozen = 0;
  speaker = 0;
  microphone = 0;
}

unfoldable pub all_marks : ℕ → List ℕ
all_marks n = filled_room 0 lamps_most (replicate n 1)

abbrev pub start_own : List ℕ → Own
start_own lamps =
    with_volumes
    (with_marks (with_seconds blank_own (in_room lamps_most lamps)) (all_marks (length lamps))) volume_start
    volume_start

unfoldable pub start_device : Wanted → Device
start_device w = record { settings = settings_of w; own = start_own w.lamps; connections = all_closed }

abbrev pub blank_text : Text
blank_text = record { len = 0; bytes = zeros text_room }

unfoldable pub blank : Device
blank = record {
  settings = record {
    name = blank_text;
    maker = blank_text;
    model = blank_text;
    other = blank_text;
    password = blank_text;
    input_count = 0;
    inputs = zeros input_room;
    lamp_count = 0;
    warm = 0;
    cool = 0;
    class_number = 0;
    serial = blank_text;
    version = blank_text;
    names = replicate listed_most blank_name;
  };
  own = blank_own;
  connections = all_closed;
}
