-- The own part, a connection or the record with something else in one place, and all else as it was. The own part is
-- spelled field by field here, and nowhere else but where it starts.
--   with_power_left o power left   the power, with so many seconds left of warm-up or cooling
--   with_chosen o place            the place of the chosen input;    with_mutes o video audio     both mutes
--   with_fault o mark              the fault mark;                   with_errors o digits         the error digits
--   with_seconds o s               the lamps' seconds;               with_marks o ms              their marks (RULES,
--                                  Lamps)
--   with_freeze o mark             the freeze mark (RULES, Class 2)
--   with_volumes o speaker microphone    both volumes (RULES, Class 2)
--   with_age c age, with_line c l  the connection at that age; with that line
--   with_own d o                   the device with that own part
-- Assumes nothing.
use Rattle.std.specs.Prelude.{ℕ, List}
use Rattle.record.specs.declared.types.Own.{Own}
use Rattle.record.specs.declared.types.CollectedLine.{CollectedLine}
use Rattle.record.specs.declared.types.Connection.{Connection}
use Rattle.record.specs.declared.types.Device.{Device}

abbrev own_of : (power left chosen video audio fault : ℕ) (errors lamps enabled : List ℕ)
    (frozen speaker microphone : ℕ) → Own
own_of power left chosen video audio fault errors lamps enabled frozen speaker microphone = record {
  power = power;
  left = left;
  chosen = chosen;
  video_muted = video;
  audio_muted = audio;
  fault = fault;
  errors = errors;
  lamps = lamps;
  enabled = enabled;
  frozen = frozen;
  speaker = speaker;
  microphone = microphone;
}

module _ (o : Own) where
  abbrev pub with_power_left : (power left : ℕ) → Own
  with_power_left p n =
      own_of p n o.chosen o.video_muted o.audio_muted o.fault o.errors o.lamps o.enabled
      o.frozen o.speaker o.microphone

  abbrev pub with_chosen : (place : ℕ) → Own
  with_chosen k =
      own_of o.power o.left k o.video_muted o.audio_muted o.fault o.errors o.lamps
      o.enabled o.frozen o.speaker o.microphone

  abbrev pub with_mutes : (video audio : ℕ) → Own
  with_mutes v a =
      own_of o.power o.left o.chosen v a o.fault o.errors o.lamps o.enabled o.frozen
      o.speaker o.microphone

  abbrev pub with_fault : (mark : ℕ) → Own
  with_fault m =
      own_of o.power o.left o.chosen o.video_muted o.audio_muted m o.errors o.lamps
      o.enabled o.frozen o.speaker o.microphone

  abbrev pub with_errors : (digits : List ℕ) → Own
  with_errors ds =
      own_of o.power o.left o.chosen o.video_muted o.audio_muted o.fault ds o.lamps
      o.enabled o.frozen o.speaker o.microphone

  abbrev pub with_seconds : List ℕ → Own
  with_seconds s =
      own_of o.power o.left o.chosen o.video_muted o.audio_muted o.fault o.errors s
      o.enabled o.frozen o.speaker o.microphone

  abbrev pub with_marks : List ℕ → Own
  with_marks ms =
      own_of o.power o.left o.chosen o.video_muted o.audio_muted o.fault o.errors o.lamps
      ms o.frozen o.speaker o.microphone

  abbrev pub with_freeze : (mark : ℕ) → Own
  with_freeze m =
      own_of o.power o.left o.chosen o.video_muted o.audio_muted o.fault o.errors o.lamps
      o.enabled m o.speaker o.microphone

  abbrev pub with_volumes : (speaker microphone : ℕ) → Own
  with_volumes s m =
      own_of o.power o.left o.chosen o.video_muted o.audio_muted o.fault o.errors o.lamps
      o.enabled o.frozen s m

abbrev pub with_age : Connection → ℕ → Connection
with_age c age = record { phase = c.phase; age = age; random = c.random; line = c.line }

abbrev pub with_line : Connection → CollectedLine → Connection
with_line c l = record { phase = c.phase; age = c.age; random = c.random; line = l }

abbrev pub with_own : Device → Own → Device
with_own d o = record { settings = d.settings; own = o; connections = d.connections }
