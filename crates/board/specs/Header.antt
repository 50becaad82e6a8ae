-- What include/ceiling.h calls the numbers of the calls and of the records, and the limits, as codes/specs/Header has
-- those of the coded layer. The gate compares names and numbers with the header (.ci/header), and what each stands for
-- here is proved to have its number (`the_header_names_the_numbers`).
--   refusal_constant r, panel_refusal_constant r, set_up_error_constant e, load_error_constant e, unwritten_constant r,
--   outcome_constant o      why a call on a device, a call on a panel, set-up, loading, the writer is refused, and what
--                           the reader takes from a line (enum pj_number)
--   setting_constant m      a setting (enum pj_setting)
--   heard_constant h        what a line that a panel heard was (enum pj_heard_kind)
--   rule_constant v         the rule that a day breaks (enum pj_rule)
--   face, limits, phases, powers_kept, awaited     constants beside the definitions that have their numbers
-- Assumes nothing.
use Rattle.std.specs.Prelude.{ℕ, Bool, List, [], ◌∷◌, codes, Option, Some, None, Result, Ok, Err, ◌==◌}
use Rattle.service.specs.declared.TheConstants.{TABLE_MOST}
use Rattle.day.specs.declared.TheConstants.{JOBS_MOST, RIGS_MOST, DAY_END}
use Rattle.day.specs.declared.check.CheckError.{CheckError}
use Rattle.day.specs.declared.check.CheckError.TheVariants as day
use Rattle.words.specs.Numerals.{hours_most}
use Rattle.words.specs.Texts.{name_most, info_most, input_name_most, password_most}
use Rattle.pjlink.specs.Carried.{inputs_carried}
use Rattle.record.specs.Limits.{text_room, listed_most, lamps_most, lamp_limit, volume_most, volume_start}
use Rattle.record.specs.Limits.{transition_most}
use Rattle.record.specs.Limits.{errors_count, line_room, places_count, age_end, off, on, cooling, warming}
use Rattle.record.specs.Limits.{phase_closed, phase_awaiting, phase_open, phase_failed}
use Rattle.record.specs.declared.refusal.Refusal.{Refusal}
use Rattle.record.specs.declared.refusal.Refusal.TheVariants as device
use Rattle.record.specs.declared.types.Setting.{Setting}
use Rattle.record.specs.declared.types.Setting.TheVariants as setting
use Rattle.record.specs.declared.set_up_error.SetUpError.{SetUpError}
use Rattle.record.specs.declared.set_up_error.SetUpError.TheVariants as set_up
use Rattle.stored.specs.Form.{form_most}
use Rattle.stored.specs.declared.error.LoadError.{LoadError}
use Rattle.stored.specs.declared.error.LoadError.TheVariants as form
use Rattle.device.specs.Calls.{reply_room}
use Rattle.history.specs.Calls.{received_most}
use Rattle.history.specs.Recording.{log_line_room}
use Rattle.controller.specs.Reading.{ReadingOutcome, means_it, erra_said, not_a_line, other_command, disallowed}
use Rattle.controller.specs.Writing.{command_room}
use Rattle.controller.specs.declared.writing.Unwritten.{Unwritten}
use Rattle.controller.specs.declared.writing.Unwritten.TheVariants as writer
use Rattle.codes.specs.Header.{Constant, ◌equals◌}
use Rattle.reasons.specs.About.{face_number}
use Rattle.panel.specs.Entries.{ungreeted, greeted_open, greeted_secured}
use Rattle.panel.specs.Hearing.{HeardAs, greets, no_greeting, too_late, replies}
use Rattle.panel.specs.LegalPanels.{panel_most}
use Rattle.panel.specs.Stepping.{strays_most}
use Rattle.panel.specs.declared.refusal.PanelRefusal.{PanelRefusal}
use Rattle.panel.specs.declared.refusal.PanelRefusal.TheVariants as panel

-- ---- numbers

abbrev pub served : Constant
served = codes "PJ_SERVED" equals 0

abbrev pub not_legal : Constant
not_legal = codes "PJ_NOT_LEGAL" equals 1

abbrev pub no_room : Constant
no_room = codes "PJ_NO_ROOM" equals 2

abbrev pub out_of_range : Constant
out_of_range = codes "PJ_OUT_OF_RANGE" equals 3

abbrev pub refusal_constant : Refusal → Constant
refusal_constant device.NotLegal = not_legal
refusal_constant device.NoRoom = no_room
refusal_constant device.OutOfRange = out_of_range
refusal_constant device.Closed = codes "PJ_NOT_CONNECTED" equals 4
refusal_constant device.NoPlace = codes "PJ_NO_PLACE" equals 6
refusal_constant device.NotOff = codes "PJ_NOT_OFF" equals 7

-- of a log that opens a connection which is not closed: no call of the archive gives it
abbrev pub connected_constant : Constant
connected_constant = codes "PJ_CONNECTED" equals 5

abbrev pub panel_refusal_constant : PanelRefusal → Constant
panel_refusal_constant panel.NotLegal = not_legal
panel_refusal_constant panel.NoRoom = no_room
panel_refusal_constant panel.OutOfRange = out_of_range
panel_refusal_constant panel.NotReady = codes "PJ_NOT_READY" equals 9

abbrev pub set_up_error_constant : SetUpError → Constant
set_up_error_constant (set_up.OutOfRange s) = out_of_range
set_up_error_constant set_up.ShortPassword = codes "PJ_SHORT_PASSWORD" equals 8

abbrev pub load_error_constant : LoadError → Constant
load_error_constant form.OtherVersion = codes "PJ_OTHER_VERSION" equals 20
load_error_constant form.CutShort = codes "PJ_CUT_SHORT" equals 21
load_error_constant form.LeftOver = codes "PJ_LEFT_OVER" equals 22
load_error_constant form.NotLegal = codes "PJ_CONTENTS" equals 23

abbrev pub unwritten_constant : Unwritten → Constant
unwritten_constant writer.NoRoom = no_room
unwritten_constant writer.OutOfRange = out_of_range

abbrev pub outcome_constant : ReadingOutcome → Constant
outcome_constant means_it = served
outcome_constant erra_said = served
outcome_constant not_a_line = codes "PJ_NOT_A_LINE" equals 10
outcome_constant other_command = codes "PJ_OTHER_COMMAND" equals 11
outcome_constant disallowed = codes "PJ_NOT_ALLOWED" equals 12

-- ---- settings, and rules of a day

abbrev pub setting_constant : Option Setting → Constant
setting_constant None = codes "PJ_SETTING_NONE" equals 0
setting_constant (Some setting.Name) = codes "PJ_SETTING_NAME" equals 1
setting_constant (Some setting.Maker) = codes "PJ_SETTING_MAKER" equals 2
setting_constant (Some setting.Model) = codes "PJ_SETTING_MODEL" equals 3
setting_constant (Some setting.Other) = codes "PJ_SETTING_OTHER" equals 4
setting_constant (Some setting.Password) = codes "PJ_SETTING_PASSWORD" equals 5
setting_constant (Some setting.Inputs) = codes "PJ_SETTING_INPUTS" equals 6
setting_constant (Some setting.Lamps) = codes "PJ_SETTING_LAMPS" equals 7
setting_constant (Some setting.WarmUp) = codes "PJ_SETTING_WARM" equals 8
setting_constant (Some setting.Cooling) = codes "PJ_SETTING_COOL" equals 9
setting_constant (Some setting.Serial) = codes "PJ_SETTING_SERIAL" equals 10
setting_constant (Some setting.Version) = codes "PJ_SETTING_VERSION" equals 11
setting_constant (Some setting.Names) = codes "PJ_SETTING_NAMES" equals 12

abbrev pub reply_constant : ReadingOutcome → Constant
reply_constant means_it = codes "PJ_HEARD_REPLY" equals 2
reply_constant erra_said = codes "PJ_HEARD_ERRA" equals 3
reply_constant other_command = codes "PJ_HEARD_FOREIGN" equals 5
reply_constant o = codes "PJ_HEARD_MALFORMED" equals 6

abbrev pub heard_constant : Option HeardAs → Constant
heard_constant None = codes "PJ_HEARD_NOTHING" equals 0
heard_constant (Some greets) = codes "PJ_HEARD_GREETING" equals 1
heard_constant (Some (replies r)) = reply_constant r.outcome
heard_constant (Some too_late) = codes "PJ_HEARD_LATE" equals 4
heard_constant (Some no_greeting) = codes "PJ_HEARD_MALFORMED" equals 6

abbrev pub accepted_constant : Constant
accepted_constant = codes "PJ_DAY_ACCEPTED" equals 0

abbrev pub rule_constant : Result (Unit {0}) CheckError → Constant
rule_constant (Ok _) = accepted_constant
rule_constant (Err day.OutOfRange) = accepted_constant
rule_constant (Err (day.NoRig j)) = codes "PJ_DAY_NO_RIG" equals 1
rule_constant (Err (day.TooEarly j)) = codes "PJ_DAY_TOO_EARLY" equals 2
rule_constant (Err (day.Clash i j)) = codes "PJ_DAY_CLASH" equals 3
rule_constant (Err (day.Spent r)) = codes "PJ_DAY_SPENT" equals 4

-- ---- what is a number by itself

infix 4 ◌names◌
pub record Naming : Type 0 where
  pub constant : Constant
  pub here : ℕ

abbrev pub ◌names◌ : Constant → ℕ → Naming
c names n = record { constant = c; here = n }

abbrev pub face : Naming
face = codes "CEILING_FACE" equals 13 names face_number

abbrev pub limits : List Naming
limits =
    (codes "PJ_NAME_MOST" equals 64 names name_most)
    ∷ (codes "PJ_INFO_MOST" equals 32 names info_most)
    ∷ (codes "PJ_SERIAL_MOST" equals 32 names info_most)
    ∷ (codes "PJ_INPUT_NAME_MOST" equals 128 names input_name_most)
    ∷ (codes "PJ_PASSWORD_MOST" equals 32 names password_most)
    ∷ (codes "PJ_INPUTS_MOST" equals 32 names listed_most)
    ∷ (codes "PJ_INPUTS_READ_MOST" equals 32 names inputs_carried)
    ∷ (codes "PJ_LAMPS_MOST" equals 8 names lamps_most)
    ∷ (codes "PJ_LAMP_MOST" equals 359999999 names lamp_limit)
    ∷ (codes "PJ_HOURS_MOST" equals 99999 names hours_most)
    ∷ (codes "PJ_WARM_COOL_MOST" equals 600 names transition_most)
    ∷ (codes "PJ_VOLUME_MOST" equals 20 names volume_most)
    ∷ (codes "PJ_VOLUME_FIRST" equals 10 names volume_start)
    ∷ (codes "PJ_PLACES" equals 4 names places_count)
    ∷ (codes "PJ_WAIT_MOST" equals 30 names age_end)
    ∷ (codes "PJ_PANEL_MOST" equals 8 names panel_most)
    ∷ (codes "PJ_STRAYS_MOST" equals 65535 names strays_most)
    ∷ (codes "PJ_TABLE_MOST" equals 64 names TABLE_MOST)
    ∷ (codes "PJ_JOBS_MOST" equals 64 names JOBS_MOST)
    ∷ (codes "PJ_RIGS_MOST" equals 8 names RIGS_MOST)
    ∷ (codes "PJ_DAY_SECONDS" equals 86400 names DAY_END)
    ∷ (codes "PJ_TEXT_ROOM" equals 64 names text_room)
    ∷ (codes "PJ_NAME_ROOM" equals 128 names input_name_most)
    ∷ (codes "PJ_LINE_ROOM" equals 167 names line_room)
    ∷ (codes "PJ_ERRORS" equals 6 names errors_count)
    ∷ (codes "PJ_REPLY_ROOM" equals 136 names reply_room)
    ∷ (codes "PJ_COMMAND_ROOM" equals 168 names command_room)
    ∷ (codes "PJ_FORM_MOST" equals 4504 names form_most)
    ∷ (codes "PJ_LOG_ROOM" equals 4097 names log_line_room)
    ∷ (codes "PJ_LOG_BYTES" equals 2046 names received_most)
    ∷ []

abbrev pub phases : List Naming
phases =
    (codes "PJ_PHASE_CLOSED" equals 0 names phase_closed)
    ∷ (codes "PJ_PHASE_AWAITING" equals 1 names phase_awaiting)
    ∷ (codes "PJ_PHASE_OPEN" equals 2 names phase_open)
    ∷ (codes "PJ_PHASE_FAILED" equals 3 names phase_failed)
    ∷ []

abbrev pub powers_kept : List Naming
powers_kept =
    (codes "PJ_POWER_OFF" equals 0 names off)
    ∷ (codes "PJ_POWER_ON" equals 1 names on)
    ∷ (codes "PJ_POWER_COOLING" equals 2 names cooling)
    ∷ (codes "PJ_POWER_WARM_UP" equals 3 names warming)
    ∷ []

abbrev pub awaited : List Naming
awaited =
    (codes "PJ_AWAITED_GREETING" equals 0 names ungreeted)
    ∷ (codes "PJ_AWAITED_OPEN" equals 1 names greeted_open)
    ∷ (codes "PJ_AWAITED_SECURED" equals 2 names greeted_secured)
    ∷ []

-- what it names is its number
abbrev pub has_its_number : Naming → Bool
has_its_number n = n.constant.number == n.here
