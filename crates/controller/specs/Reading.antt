-- Reading a reply (RULES, Controller). The ERRA line is known for every command (docs/DECISIONS).
--   ReadingOutcome                    whether a line means something, is the ERRA line, or why it is neither
--   ReadAs                     what the reader gives: the outcome, and what is said (nothing unless the outcome is
--                              means_it)
--   reading_outcome_number o   the number of an outcome in the table of numbers
--   meaning m                  the reading that means m
--   saying m                   the reading of a parameter that says m: it is not allowed where it says nothing, its
--                              outcome by `outcome_said`
--   read_reply c l             what the line l, with its CR, says to the command c: the ERRA line, then the form of a
--                              reply of the command's class (RULES, Class 2), then the body, then the parameter
--   outcome_of m               why a line says nothing, as an outcome
--   read_as r                  what the code returns, seen so
--   LineSays c l m             the line l, with its CR, says m in reply to c: by its form, its body and its parameter
-- Assumes nothing.
use Rattle.std.specs.Prelude.{ℕ, ◌≡◌, true, not, List, Result, Ok, Err, if◌then◌else◌}
use Rattle.text.specs.Scans.{is_same_by, itself}
use Rattle.pjlink.specs.Forms.{erra_line, is_reply_form, head_body, reply_parameter}
use Rattle.pjlink.specs.Commands.{body_of, command_class}
use Rattle.pjlink.specs.declared.command.Command.{Command}
use Rattle.pjlink.specs.Bodies.{is_body}
use Rattle.pjlink.specs.Said.{Said, nothing}
use Rattle.pjlink.specs.Carried.{said_by}
use Rattle.pjlink.specs.Reading.{read_parameter}
use Rattle.pjlink.specs.Writings.{Says}
use Rattle.controller.specs.declared.reading.Reading.{Reading}
use Rattle.controller.specs.declared.reading.Reading.TheVariants as read
use Rattle.controller.specs.declared.reading.Misread.{Misread}
use Rattle.controller.specs.declared.reading.Misread.TheVariants as misread

pub data ReadingOutcome : Type 0 where
  means_it : ReadingOutcome
  erra_said : ReadingOutcome
  not_a_line : ReadingOutcome
  other_command : ReadingOutcome
  disallowed : ReadingOutcome

pub record ReadAs : Type 0 where
  pub outcome : ReadingOutcome
  pub said : Said

abbrev pub reading_outcome_number : ReadingOutcome → ℕ
reading_outcome_number means_it = 0
reading_outcome_number erra_said = 0
reading_outcome_number not_a_line = 10
reading_outcome_number other_command = 11
reading_outcome_number disallowed = 12

abbrev pub meaning : Said → ReadAs
meaning m = record { outcome = means_it; said = m }

abbrev pub outcome_alone : ReadingOutcome → ReadAs
outcome_alone o = record { outcome = o; said = nothing }

abbrev pub outcome_said : Said → ReadingOutcome
outcome_said nothing = disallowed
outcome_said m = means_it

abbrev pub saying : Said → ReadAs
saying m = record { outcome = outcome_said m; said = m }

unfoldable pub read_reply : Command → List ℕ → ReadAs
read_reply c l =
    if is_same_by itself l erra_line then outcome_alone erra_said
    else if not (is_reply_form (command_class c) l) then outcome_alone not_a_line
    else if not (is_body (command_class c) (head_body l) (body_of c)) then outcome_alone other_command
    else saying (read_parameter c (reply_parameter l))

abbrev pub outcome_of : Misread → ReadingOutcome
outcome_of misread.NotALine = not_a_line
outcome_of misread.OtherCommand = other_command
outcome_of misread.NotAllowed = disallowed

abbrev pub read_as : Result Reading Misread → ReadAs
read_as (Ok (read.Means r)) = meaning (said_by r)
read_as (Ok read.Erra) = outcome_alone erra_said
read_as (Err m) = outcome_alone (outcome_of m)

-- whoever reads it
pub record LineSays (c : Command) (l : List ℕ) (m : Said) : Type 0 where
  pub form : is_reply_form (command_class c) l ≡ true
  pub body : is_body (command_class c) (head_body l) (body_of c) ≡ true
  pub says : Says c m (reply_parameter l)
