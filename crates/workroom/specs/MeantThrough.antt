-- What the projector means and does while this happens, by its tables alone (crates `meaning` and `clock`): here is no
-- byte, no line, no connection and no panel.
--   said_at s o h         what the projector with the settings s and the own part o means by its reply; where there is
--                         none, nothing is said
--   own_at s o h          its own part afterwards: what the command does, or the seconds that passed; after what others
--                         did it is as they left it
--   shown_through s o v hs    what was shown, v, and on it all that was said, one after the other (`showing` of panel)
--   own_through s o hs    its own part after all of it
--   IsWithin s m          m is a command of a class no higher than that of the settings s (RULES, Class 2), or none
-- Assumes nothing.
use Rattle.std.specs.Prelude.{◌≤◌, List, [], ◌∷◌, Option, Some, None, Ok}
use Rattle.pjlink.specs.Commands.{command_class}
use Rattle.pjlink.specs.declared.command.Command.{Command}
use Rattle.pjlink.specs.Said.{Said, nothing}
use Rattle.record.specs.declared.types.Settings.{Settings}
use Rattle.record.specs.declared.types.Own.{Own}
use Rattle.clock.specs.Second.{times, own_second}
use Rattle.meaning.specs.Meaning.{answer_for, after_request}
use Rattle.codes.specs.Commands.{coded_command}
use Rattle.panel.specs.Entries.{Shown}
use Rattle.panel.specs.Showing.{showing}
use Rattle.workroom.specs.Workroom.{RoomMove, asks, waits, meanwhile}

module _ (s : Settings) where
  -- a code that stands for no command is refused by the panel
  abbrev pub said_to : Own → Option Command → Said
  said_to o (Some c) = answer_for s o (Ok c)
  said_to o None = nothing

  abbrev pub done_for : Own → Option Command → Own
  done_for o (Some c) = after_request s o (Ok c)
  done_for o None = o

  abbrev pub IsWithin : Option Command → Type 0
  IsWithin (Some c) = command_class c ≤ s.class_number
  IsWithin None = Unit {0}

  abbrev pub said_at : Own → RoomMove → Said
  said_at o (asks k there back) = said_to o (coded_command k)
  said_at o h = nothing

  abbrev pub own_at : Own → RoomMove → Own
  own_at o (asks k there back) = done_for o (coded_command k)
  own_at o (waits n) = times (own_second s) n o
  own_at o (meanwhile d) = d.own
  own_at o h = o

  abbrev pub shown_through : Own → Shown → List RoomMove → Shown
  shown_through o v [] = v
  shown_through o v (h ∷ hs) = shown_through (own_at o h) (showing v (said_at o h)) hs

  abbrev pub own_through : Own → List RoomMove → Own
  own_through o [] = o
  own_through o (h ∷ hs) = own_through (own_at o h) hs
