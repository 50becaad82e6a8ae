-- Writing a command (RULES, Controller and The numbers a call gives).
--   command_room                     less memory is 2: the digest and the longest line that the standard allows
--   is_writable c secured password   the command's line can be written, and a digest is asked for of a legal password
--   led_by secured random password   what comes before the line: if asked for, the digest
--   written_command c secured random password room    refused with 2 or 3, or the line
--   unwritten_number e               the number of a refusal
-- Assumes nothing.
use Rattle.std.specs.Prelude.{ℕ, Bool, not, ◌&&◌, ◌||◌, List, [], ◌∷◌, ◌++◌, if◌then◌else◌, nat_lt}
use Rattle.text.specs.Rows.{◌when◌, by_rows}
use Rattle.text.specs.Outcomes.{CallResult, served_as, refused_as}
use Rattle.digest.specs.Hex.{leading_digest}
use Rattle.words.specs.Texts.{is_password}
use Rattle.pjlink.specs.Commands.{is_command, command_line}
use Rattle.pjlink.specs.declared.command.Command.{Command}
use Rattle.controller.specs.declared.writing.Unwritten.{Unwritten}
use Rattle.controller.specs.declared.writing.Unwritten.TheVariants.{NoRoom, OutOfRange}

abbrev pub command_room : ℕ
command_room = 168

abbrev pub is_writable : Command → Bool → List ℕ → Bool
is_writable c secured password = is_command c && (not secured || is_password password)

abbrev pub led_by : Bool → ℕ → List ℕ → List ℕ
led_by secured random password = if secured then leading_digest random password else []

unfoldable pub written_command : Command → Bool → ℕ → List ℕ → ℕ → CallResult Unwritten (Unit {0}) (Unit {0})
written_command c secured random password room =
    by_rows ((NoRoom when nat_lt room command_room) ∷ (OutOfRange when not (is_writable c secured password)) ∷ [])
    (refused_as tt) (served_as tt (led_by secured random password ++ command_line c) tt)

abbrev pub unwritten_number : Unwritten → ℕ
unwritten_number NoRoom = 2
unwritten_number OutOfRange = 3
