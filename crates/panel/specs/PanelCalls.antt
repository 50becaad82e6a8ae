-- The panel's calls (RULES, Panel; their numbers in the order of the table, with 9 after the others).
--   no_panel               the panel without a projector
--   entry_at p i, with_entry p i e   the entry of the projector i; the panel p with the entry e there
--   adding_rows, commanding_rows, projector_rows   when each call is refused
--   added_to p s             adds a projector with the password s: 1, then 3
--   command_at p i k room  sends the command k to the projector i: 1, 2, 3, 9, or its line
--   stepped_at p i l       the line l from the projector i: 1, 3, or what it was, and what it
--                          does to that projector's entry
--   told_at p i l          what that line was, if the call is served
--   lost_at p i            the connection of the projector i is gone: 1, 3
-- Assumes nothing.
use Rattle.std.specs.Prelude.{ℕ, ◌+◌, not, List, [], ◌∷◌, set, replicate, slice_index_or, nat_le, nat_lt, is_some}
use Rattle.std.specs.Prelude.{Option}
use Rattle.std.specs.Result.{result_ok}
use Rattle.text.specs.Rows.{RefusalRow, ◌when◌, by_rows}
use Rattle.text.specs.Outcomes.{CallResult, served_as, refused_as}
use Rattle.words.specs.Texts.{is_password}
use Rattle.controller.specs.Writing.{command_room}
use Rattle.codes.specs.Commands.{coded_command}
use Rattle.codes.specs.declared.command.Coded.{Coded}
use Rattle.panel.specs.Entries.{fresh_entry, blank_entry}
use Rattle.panel.specs.Stepping.{heard_line, lost_entry, sent_entry, is_unready, line_sent}
use Rattle.panel.specs.Hearing.{HeardAs, line_heard}
use Rattle.panel.specs.LegalPanels.{panel_most, is_panel}
use Rattle.panel.specs.declared.types.PanelEntry.{PanelEntry}
use Rattle.panel.specs.declared.types.Panel.{Panel}
use Rattle.panel.specs.declared.refusal.PanelRefusal.{PanelRefusal}
use Rattle.panel.specs.declared.refusal.PanelRefusal.TheVariants.{NotLegal, NoRoom, OutOfRange, NotReady}

abbrev pub no_panel : Panel
no_panel = record { count = 0; entries = replicate panel_most blank_entry }

abbrev pub entry_at : Panel → ℕ → PanelEntry
entry_at p i = slice_index_or p.entries i blank_entry

abbrev pub with_entry : Panel → ℕ → PanelEntry → Panel
with_entry p i e = record { count = p.count; entries = set p.entries i e }

abbrev pub grown_by : Panel → PanelEntry → Panel
grown_by p e = record { count = p.count + 1; entries = set p.entries p.count e }

abbrev pub adding_rows : Panel → List ℕ → List (RefusalRow PanelRefusal)
adding_rows p s =
    (NotLegal when not (is_panel p)) ∷ (OutOfRange when not (is_password s))
    ∷ (OutOfRange when nat_le panel_most p.count) ∷ []

abbrev pub commanding_rows : Panel → ℕ → Coded → ℕ → List (RefusalRow PanelRefusal)
commanding_rows p i k room =
    (NotLegal when not (is_panel p)) ∷ (NoRoom when nat_lt room command_room) ∷ (OutOfRange when nat_le p.count i)
    ∷ (OutOfRange when not (is_some (coded_command k))) ∷ (NotReady when is_unready (entry_at p i)) ∷ []

abbrev pub projector_rows : Panel → ℕ → List (RefusalRow PanelRefusal)
projector_rows p i = (NotLegal when not (is_panel p)) ∷ (OutOfRange when nat_le p.count i) ∷ []

unfoldable pub added_to : Panel → List ℕ → CallResult PanelRefusal (Unit {0}) Panel
added_to p s = by_rows (adding_rows p s) (refused_as p) (served_as tt [] (grown_by p (fresh_entry s)))

abbrev pub sent_at : Panel → ℕ → Coded → ℕ → CallResult PanelRefusal (Unit {0}) Panel
sent_at p i k room =
    let e = entry_at p i in served_as tt (line_sent e (coded_command k) room) (with_entry p i (sent_entry e k))

unfoldable pub command_at : Panel → ℕ → Coded → ℕ → CallResult PanelRefusal (Unit {0}) Panel
command_at p i k room = by_rows (commanding_rows p i k room) (refused_as p) (sent_at p i k room)

abbrev pub heard_at : Panel → ℕ → List ℕ → CallResult PanelRefusal HeardAs Panel
heard_at p i l =
    let e = entry_at p i in served_as (line_heard e l) [] (with_entry p i (heard_line e l))

unfoldable pub stepped_at : Panel → ℕ → List ℕ → CallResult PanelRefusal HeardAs Panel
stepped_at p i l = by_rows (projector_rows p i) (refused_as p) (heard_at p i l)

abbrev pub told_at : Panel → ℕ → List ℕ → Option HeardAs
told_at p i l = result_ok (stepped_at p i l).says

abbrev pub lost_as : Panel → ℕ → CallResult PanelRefusal (Unit {0}) Panel
lost_as p i = served_as tt [] (with_entry p i (lost_entry (entry_at p i)))

unfoldable pub lost_at : Panel → ℕ → CallResult PanelRefusal (Unit {0}) Panel
lost_at p i = by_rows (projector_rows p i) (refused_as p) (lost_as p i)
