-- What include/ceiling.h calls the numbers of commands and readings: each constant of its enums by its name, with its
-- number, and what it stands for. The gate compares names and numbers with the header (.ci/header), and the definitions
-- of this crate are proved to give these numbers (`the_header_names_the_codes`).
--   Constant              a constant of the header; n equals m is the one with the name n and the number m
--   command_constant c    the code of a command (enum pj_code); a body that has no query has that of its one command
--   said_constant m, reading_constant o m     the kind of a reading (enum pj_reading_kind)
--   greeting_constant g   the kind of a greeting (enum pj_greeting_kind)
--   power_constant p      a power (enum pj_power)
-- Assumes nothing.
use Rattle.std.specs.Prelude.{ℕ, List, codes, Option, Some, None}
use Rattle.words.specs.declared.class.ClassNumber.TheVariants.{One, Two}
use Rattle.words.specs.declared.power.PowerStatus.{PowerStatus}
use Rattle.words.specs.declared.power.PowerStatus.TheVariants.{Off, On, Cooling, WarmUp}
use Rattle.pjlink.specs.Said.{Said, okay, refused, power_is, chosen_is, mutes_are, errors_are, lamps_are, inputs_are}
use Rattle.pjlink.specs.Said.{text_is, class_is, freeze_is, nothing}
use Rattle.pjlink.specs.declared.body.Body.{Body}
use Rattle.pjlink.specs.declared.body.Body.TheVariants.{Powr, Inpt, Avmt, Erst, Lamp, Inst, Name, Inf1, Inf2, Info}
use Rattle.pjlink.specs.declared.body.Body.TheVariants.{Clss, Frez, Svol, Mvol, Snum, Sver, Innm}
use Rattle.pjlink.specs.declared.command.Volume.TheVariants.{Speaker, Microphone}
use Rattle.pjlink.specs.declared.command.Command.{Command}
use Rattle.pjlink.specs.declared.command.Command.TheVariants.{PowerSet, InputSet, MuteSet, FreezeSet}
use Rattle.pjlink.specs.declared.command.Command.TheVariants.{VolumeStep, NameQuery, Query}
use Rattle.pjlink.specs.declared.greeting.Greeting.{Greeting}
use Rattle.pjlink.specs.declared.greeting.Greeting.TheVariants.{Open, Secured, Refused}
use Rattle.controller.specs.Reading.{ReadingOutcome, means_it, erra_said}

infix 5 ◌equals◌
pub record Constant : Type 0 where
  pub name : List ℕ
  pub number : ℕ

abbrev pub ◌equals◌ : List ℕ → ℕ → Constant
n equals m = record { name = n; number = m }

abbrev pub query_constant : Body → Constant
query_constant Powr = codes "PJ_POWR_ASK" equals 0
query_constant (Inpt One) = codes "PJ_INPT_ASK" equals 2
query_constant Avmt = codes "PJ_AVMT_ASK" equals 4
query_constant Erst = codes "PJ_ERST" equals 6
query_constant Lamp = codes "PJ_LAMP" equals 7
query_constant (Inst One) = codes "PJ_INST" equals 8
query_constant Name = codes "PJ_NAME" equals 9
query_constant Inf1 = codes "PJ_INF1" equals 10
query_constant Inf2 = codes "PJ_INF2" equals 11
query_constant Info = codes "PJ_INFO" equals 12
query_constant Clss = codes "PJ_CLSS" equals 13
query_constant Frez = codes "PJ_FREZ_ASK" equals 14
query_constant Svol = codes "PJ_SVOL" equals 16
query_constant Mvol = codes "PJ_MVOL" equals 17
query_constant Snum = codes "PJ_SNUM" equals 18
query_constant Sver = codes "PJ_SVER" equals 19
query_constant Innm = codes "PJ_INNM" equals 20
query_constant (Inpt Two) = codes "PJ_INPT_ASK_2" equals 21
query_constant (Inst Two) = codes "PJ_INST_2" equals 23

abbrev pub command_constant : Command → Constant
command_constant (Query b) = query_constant b
command_constant (PowerSet on) = codes "PJ_POWR_SET" equals 1
command_constant (InputSet One i) = codes "PJ_INPT_SET" equals 3
command_constant (MuteSet half on) = codes "PJ_AVMT_SET" equals 5
command_constant (FreezeSet on) = codes "PJ_FREZ_SET" equals 15
command_constant (VolumeStep Speaker up) = codes "PJ_SVOL" equals 16
command_constant (VolumeStep Microphone up) = codes "PJ_MVOL" equals 17
command_constant (NameQuery i) = codes "PJ_INNM" equals 20
command_constant (InputSet Two i) = codes "PJ_INPT_SET_2" equals 22

abbrev pub no_meaning_constant : Constant
no_meaning_constant = codes "PJ_READ_NONE" equals 0

abbrev pub said_constant : Said → Constant
said_constant okay = codes "PJ_READ_OK" equals 1
said_constant (refused n) = codes "PJ_READ_ERR" equals 2
said_constant (power_is p) = codes "PJ_READ_POWER" equals 3
said_constant (chosen_is i) = codes "PJ_READ_INPUT" equals 4
said_constant (mutes_are video audio) = codes "PJ_READ_MUTES" equals 5
said_constant (errors_are ds) = codes "PJ_READ_ERRORS" equals 6
said_constant (lamps_are ls) = codes "PJ_READ_LAMPS" equals 7
said_constant (inputs_are is) = codes "PJ_READ_INPUTS" equals 8
said_constant (text_is s) = codes "PJ_READ_TEXT" equals 9
said_constant (class_is k) = codes "PJ_READ_CLASS" equals 10
said_constant (freeze_is on) = codes "PJ_READ_FREEZE" equals 12
said_constant nothing = no_meaning_constant

abbrev pub reading_constant : ReadingOutcome → Said → Constant
reading_constant means_it m = said_constant m
reading_constant erra_said m = codes "PJ_READ_ERRA" equals 11
reading_constant o m = no_meaning_constant

abbrev pub greeting_constant : Option Greeting → Constant
greeting_constant None = codes "PJ_GREETING_NONE" equals 0
greeting_constant (Some Open) = codes "PJ_GREETING_OPEN" equals 1
greeting_constant (Some (Secured random)) = codes "PJ_GREETING_SECURED" equals 2
greeting_constant (Some Refused) = codes "PJ_GREETING_ERRA" equals 3

abbrev pub power_constant : PowerStatus → Constant
power_constant Off = codes "PJ_POWER_OFF" equals 0
power_constant On = codes "PJ_POWER_ON" equals 1
power_constant Cooling = codes "PJ_POWER_COOLING" equals 2
power_constant WarmUp = codes "PJ_POWER_WARM_UP" equals 3
