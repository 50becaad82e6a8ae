-- The controller's calls on a command as a code. A code that is no command is refused with 3 (docs/DECISIONS.md): by
-- the writer after its 2, by the reader first.
--   none_written room   what the writer gives for a code that is no command
--   written_by m ..     what the writer gives for the command m, or for none
--   read_by m l         what the reader gives of the line l in reply to the command m, or to none
-- Assumes nothing.
use Rattle.std.specs.Prelude.{ℕ, Bool, List, if◌then◌else◌, Option, Some, None, nat_lt}
use Rattle.pjlink.specs.declared.command.Command.{Command}
use Rattle.text.specs.Outcomes.{CallResult, refused_as}
use Rattle.controller.specs.Writing.{command_room, written_command}
use Rattle.controller.specs.declared.writing.Unwritten.{Unwritten}
use Rattle.controller.specs.declared.writing.Unwritten.TheVariants.{NoRoom, OutOfRange}
use Rattle.controller.specs.Reading.{read_reply}
use Rattle.codes.specs.Readings.{no_reading, flat_reading}
use Rattle.codes.specs.declared.readings.FlatReading.{FlatReading}

abbrev pub none_written : ℕ → CallResult Unwritten (Unit {0}) (Unit {0})
none_written room = refused_as tt (if nat_lt room command_room then NoRoom else OutOfRange)

abbrev pub written_by : Option Command → (secured : Bool) (random : ℕ) (password : List ℕ) (room : ℕ)
    → CallResult Unwritten (Unit {0}) (Unit {0})
written_by (Some c) secured random password room = written_command c secured random password room
written_by None secured random password room = none_written room

abbrev pub read_by : Option Command → List ℕ → FlatReading
read_by (Some c) l = flat_reading (read_reply c l)
read_by None l = no_reading 3
