-- What each kind of line does, as a table (RULES, Panel), for any panel: the entry e becomes f by the line l. A legal
-- entry changes by this table (proofs/StepsByTable), and no two rows give different entries.
--   IsUnderWay e c     the greeting of e was accepted, and the command c is under way
--   IsStray e l        the line l is late, foreign or malformed: by the state of the connection, or by the number of
--                      the reading
--   StepTo e l f       the rows of the table
-- Assumes nothing.
use Rattle.std.specs.Prelude.{ℕ, ◌≡◌, Bool, true, false, List, Option, Some}
use Rattle.text.specs.Flags.{is_raised}
use Rattle.pjlink.specs.Forms.{erra_line}
use Rattle.pjlink.specs.declared.command.Command.{Command}
use Rattle.pjlink.specs.Said.{Said}
use Rattle.pjlink.specs.Greetings.{read_greeting}
use Rattle.controller.specs.Reading.{meaning, read_reply, reading_outcome_number}
use Rattle.pjlink.specs.declared.greeting.Greeting.{Greeting}
use Rattle.pjlink.specs.declared.greeting.Greeting.TheVariants.{Open, Secured}
use Rattle.codes.specs.Commands.{coded_command}
use Rattle.panel.specs.Entries.{ungreeted, greeted_open, greeted_secured, greeted_by}
use Rattle.panel.specs.Stepping.{with_stray, with_talk, answered_entry, erra_entry}
use Rattle.panel.specs.declared.types.PanelEntry.{PanelEntry}

abbrev pub is_greeting : Option Greeting → Bool
is_greeting (Some Open) = true
is_greeting (Some (Secured random)) = true
is_greeting g = false

pub record IsUnderWay (e : PanelEntry) (c : Command) : Type 0 where
  pub greeted : e.greeting ≡ ungreeted → ⊥
  pub waits : is_raised e.under_way ≡ true
  pub asked : coded_command e.command ≡ Some c

pub data IsStray (e : PanelEntry) (l : List ℕ) : Type 0 where
  ungreeted_malformed : e.greeting ≡ ungreeted → is_greeting (read_greeting l) ≡ false → IsStray e l
  late : (e.greeting ≡ ungreeted → ⊥) → is_raised e.under_way ≡ false → IsStray e l
  malformed : (c : Command) → IsUnderWay e c → reading_outcome_number (read_reply c l).outcome ≡ 10 → IsStray e l
  foreign : (c : Command) → IsUnderWay e c → reading_outcome_number (read_reply c l).outcome ≡ 11 → IsStray e l
  not_allowed : (c : Command) → IsUnderWay e c → reading_outcome_number (read_reply c l).outcome ≡ 12 → IsStray e l

pub data StepTo (e : PanelEntry) (l : List ℕ) : PanelEntry → Type 0 where
  greets_open : e.greeting ≡ ungreeted → read_greeting l ≡ Some Open
      → StepTo e l (with_talk e (greeted_by greeted_open 0))
  greets_secured : (random : ℕ) → e.greeting ≡ ungreeted → read_greeting l ≡ Some (Secured random)
      → StepTo e l (with_talk e (greeted_by greeted_secured random))
  strays : IsStray e l → StepTo e l (with_stray e)
  answers : (c : Command) (m : Said) → IsUnderWay e c → read_reply c l ≡ meaning m → StepTo e l (answered_entry e m)
  refuses : (c : Command) → IsUnderWay e c → l ≡ erra_line → StepTo e l (erra_entry e)
