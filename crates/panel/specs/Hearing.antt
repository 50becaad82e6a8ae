-- What a line from a projector was (RULES, Panel). A host may ask for it; the line changes the entry as Stepping says.
--   HeardAs            what a line was: a greeting; none, where one is awaited; late; or the reading of it as a reply
--                      to the command under way: accepted, ERRA, foreign or malformed by its outcome
--   greeting_heard g   what a line is while the greeting is awaited, where the reader of greetings read g
--   reply_heard m l    what the line l is while the command m is under way
--   line_heard e l     what the line l from the projector of the entry e is
--   heard_by_code h    the code's h as a HeardAs
--   hearing_said r     what a line was, by what a call returns
--   heard_bytes h      the bytes of the parameter that was read: no more than a reading has room for
--   heard_kind h, heard_reading h     what a line was, as numbers: its kind (enum pj_heard_kind), and its reading, if
--                      it was read as a reply
-- Assumes nothing.
use Rattle.std.specs.Prelude.{not, List, [], if◌then◌else◌, Option, Some, None, Result, Ok, Err, ℕ, ◌==◌}
use Rattle.text.specs.Flags.{is_raised}
use Rattle.pjlink.specs.Greetings.{read_greeting}
use Rattle.pjlink.specs.declared.greeting.Greeting.{Greeting}
use Rattle.pjlink.specs.declared.greeting.Greeting.TheVariants.{Open, Secured}
use Rattle.pjlink.specs.declared.command.Command.{Command}
use Rattle.pjlink.specs.Said.{said_bytes}
use Rattle.controller.specs.Reading.{ReadAs, read_reply, read_as}
use Rattle.controller.specs.Reading.{ReadingOutcome, means_it, erra_said, not_a_line, other_command, disallowed}
use Rattle.codes.specs.Commands.{coded_command}
use Rattle.codes.specs.Readings.{flat_reading, no_reading}
use Rattle.codes.specs.declared.readings.FlatReading.{FlatReading}
use Rattle.panel.specs.Entries.{ungreeted}
use Rattle.panel.specs.declared.types.PanelEntry.{PanelEntry}
use Rattle.panel.specs.declared.refusal.PanelRefusal.{PanelRefusal}
use Rattle.panel.specs.declared.heard.Heard.{Heard}
use Rattle.panel.specs.declared.heard.Heard.TheVariants as code

pub data HeardAs : Type 0 where
  greets : HeardAs
  no_greeting : HeardAs
  too_late : HeardAs
  replies : ReadAs → HeardAs

abbrev pub greeting_heard : Option Greeting → HeardAs
greeting_heard (Some Open) = greets
greeting_heard (Some (Secured random)) = greets
greeting_heard g = no_greeting

-- in a legal entry the command under way is one
abbrev pub reply_heard : Option Command → List ℕ → HeardAs
reply_heard (Some c) l = replies (read_reply c l)
reply_heard None l = too_late

unfoldable pub line_heard : PanelEntry → List ℕ → HeardAs
line_heard e l =
    if e.greeting == ungreeted then greeting_heard (read_greeting l)
    else if not (is_raised e.under_way) then too_late
    else reply_heard (coded_command e.command) l

abbrev pub heard_by_code : Heard → HeardAs
heard_by_code code.Greeting = greets
heard_by_code code.NoGreeting = no_greeting
heard_by_code code.Late = too_late
heard_by_code (code.Reply r) = replies (read_as r)

abbrev pub hearing_said : Result Heard PanelRefusal → Result HeardAs PanelRefusal
hearing_said (Ok h) = Ok (heard_by_code h)
hearing_said (Err r) = Err r

abbrev pub heard_bytes : HeardAs → List ℕ
heard_bytes (replies r) = said_bytes r.said
heard_bytes h = []

abbrev pub outcome_heard : ReadingOutcome → ℕ
outcome_heard means_it = 2
outcome_heard erra_said = 3
outcome_heard other_command = 5
outcome_heard not_a_line = 6
outcome_heard disallowed = 6

abbrev pub heard_kind : Option HeardAs → ℕ
heard_kind None = 0
heard_kind (Some greets) = 1
heard_kind (Some (replies r)) = outcome_heard r.outcome
heard_kind (Some too_late) = 4
heard_kind (Some no_greeting) = 6

abbrev pub heard_reading : Option HeardAs → FlatReading
heard_reading (Some (replies r)) = flat_reading r
heard_reading h = no_reading 0
