-- Wrong panels: each is ours except for what its name says of one kind of line; proofs/WrongPanelsFall.antt has where
-- each violates the demand.
--   hearing_as f     ours, but where a command is under way f takes the reading of the line
-- Assumes nothing.
use Rattle.std.specs.Prelude.{ℕ, ◌+◌, not, List, set, ◌++◌, replicate, codes, if◌then◌else◌, Option, Some, None, ◌==◌}
use Rattle.text.specs.Flags.{is_raised}
use Rattle.pjlink.specs.declared.command.Command.TheVariants.{Query}
use Rattle.pjlink.specs.declared.body.Body.TheVariants.{Powr}
use Rattle.pjlink.specs.declared.command.Command.{Command}
use Rattle.pjlink.specs.Said.{Said}
use Rattle.controller.specs.Writing.{command_room}
use Rattle.controller.specs.Reading.{ReadAs, ReadingOutcome, means_it, erra_said, not_a_line, other_command, read_reply}
use Rattle.codes.specs.Commands.{coded_command}
use Rattle.panel.specs.AnyPanel.{AnyPanel, PanelAs, panel_made, ours_hearing, ours_panel}
use Rattle.panel.specs.Entries.{talk_of, shown_of, entry_of, rested_on, password_in, fresh_entry, blank_entry}
use Rattle.panel.specs.LegalPanels.{panel_most}
use Rattle.panel.specs.Stepping.{with_stray, with_talk, lost_entry, heard_as, heard_by, heard_line, is_unready}
use Rattle.panel.specs.PanelCalls.{entry_at, with_entry}
use Rattle.panel.specs.Hearing.{HeardAs, replies}
use Rattle.panel.specs.declared.types.PanelEntry.{PanelEntry}
use Rattle.panel.specs.declared.types.Panel.{Panel}

abbrev stepping_by : (PanelEntry → List ℕ → PanelEntry) → AnyPanel
stepping_by f = ours_hearing (λ p i l. panel_made (with_entry p i (f (entry_at p i) l)))

abbrev replied_as : (PanelEntry → List ℕ → ReadAs → PanelEntry) → PanelEntry → List ℕ → Option Command → PanelEntry
replied_as f e l (Some c) = f e l (read_reply c l)
replied_as f e l None = with_stray e

abbrev hearing_as : (PanelEntry → List ℕ → ReadAs → PanelEntry) → AnyPanel
hearing_as f =
    stepping_by (λ e l. if is_raised e.under_way then replied_as f e l (coded_command e.command) else heard_line e l)

-- takes a foreign reply for the one under way: a power reading is shown whatever was asked
abbrev taken_foreign : PanelEntry → List ℕ → ReadingOutcome → Said → PanelEntry
taken_foreign e l other_command m = heard_by e (read_reply (Query Powr) l)
taken_foreign e l o m = heard_as e o m

abbrev pub takes_foreign : AnyPanel
takes_foreign = hearing_as (λ e l r. taken_foreign e l r.outcome r.said)

-- ends the command on a malformed line
abbrev ended_malformed : PanelEntry → ReadingOutcome → Said → PanelEntry
ended_malformed e not_a_line m = with_stray (with_talk e (rested_on (talk_of e)))
ended_malformed e o m = heard_as e o m

abbrev pub ends_on_malformed : AnyPanel
ends_on_malformed = hearing_as (λ e l r. ended_malformed e r.outcome r.said)

-- keeps its readings after ERRA
abbrev erra_kept : PanelEntry → ReadingOutcome → Said → PanelEntry
erra_kept e erra_said m = lost_entry e
erra_kept e o m = heard_as e o m

abbrev pub keeps_after_erra : AnyPanel
keeps_after_erra = hearing_as (λ e l r. erra_kept e r.outcome r.said)

-- its count of strays wraps, where nothing is under way
abbrev wrapped_count : ℕ → ℕ
wrapped_count n = if n == 65535 then 0 else n + 1

abbrev with_wrapped_count : PanelEntry → PanelEntry
with_wrapped_count e = entry_of e.password (talk_of e) (shown_of e) (wrapped_count e.strays)

abbrev pub stray_count_wraps : AnyPanel
stray_count_wraps = stepping_by (λ e l. if not (is_unready e) then with_wrapped_count e else heard_line e l)

-- a late reply is shown: whatever was asked last, a power reading is
abbrev pub shows_late : AnyPanel
shows_late = stepping_by (λ e l. if not (is_unready e) then heard_by e (read_reply (Query Powr) l) else heard_line e l)

-- counts nothing
abbrev pub counts_nothing : AnyPanel
counts_nothing = stepping_by (λ e l. if not (is_unready e) then e else heard_line e l)

-- accepts a reply, and shows nothing of it
abbrev unshown_reply : PanelEntry → ReadingOutcome → Said → PanelEntry
unshown_reply e means_it m = with_talk e (rested_on (talk_of e))
unshown_reply e o m = heard_as e o m

abbrev pub shows_no_reply : AnyPanel
shows_no_reply = hearing_as (λ e l r. unshown_reply e r.outcome r.said)

-- ---- wrong in what a call does or says, where it is served

abbrev where_served : (PanelAs → PanelAs) → PanelAs → PanelAs
where_served f r = if r.number == 0 then f r else r

-- a projector more, and what was kept of the others is gone
abbrev only_the_last : (s : List ℕ) → ℕ → Panel
only_the_last s n = record { count = n + 1; entries = set (replicate panel_most blank_entry) n (fresh_entry s) }

abbrev pub forgets_at_addition : AnyPanel
forgets_at_addition = record {
  none = ours_panel.none;
  add = λ p s. where_served (λ r. panel_made (only_the_last s p.count)) (ours_panel.add p s);
  command = ours_panel.command;
  hear = ours_panel.hear;
  tell = ours_panel.tell;
  lose = ours_panel.lose;
}

-- in memory of any length but the least, the password in the clear, on a line of its own before the command's
abbrev before_it : List ℕ → PanelAs → PanelAs
before_it s r = record { number = r.number; line = s ++ codes "\r" ++ r.line; panel = r.panel }

abbrev pub tells_the_password : AnyPanel
tells_the_password = record {
  none = ours_panel.none;
  add = ours_panel.add;
  command = λ p i k room.
      if room == command_room then ours_panel.command p i k room
      else where_served (before_it (password_in (entry_at p i))) (ours_panel.command p i k room);
  hear = ours_panel.hear;
  tell = ours_panel.tell;
  lose = ours_panel.lose;
}

-- it takes the line, and the loss, and says that there is no such projector
abbrev with_3 : PanelAs → PanelAs
with_3 r = record { number = 3; line = r.line; panel = r.panel }

abbrev pub refuses_what_it_does : AnyPanel
refuses_what_it_does = record {
  none = ours_panel.none;
  add = ours_panel.add;
  command = ours_panel.command;
  hear = λ p i l. where_served with_3 (ours_panel.hear p i l);
  tell = ours_panel.tell;
  lose = λ p i. where_served with_3 (ours_panel.lose p i);
}

-- ---- wrong in what is reported of a line

abbrev unread : ReadingOutcome → Said → ReadAs
unread erra_said m = record { outcome = not_a_line; said = m }
unread o m = record { outcome = o; said = m }

abbrev without_erra : Option HeardAs → Option HeardAs
without_erra (Some (replies r)) = Some (replies (unread r.outcome r.said))
without_erra h = h

-- the ERRA line is reported as malformed: nobody learns that the password is wrong
abbrev pub hides_the_wrong_password : AnyPanel
hides_the_wrong_password = record {
  none = ours_panel.none;
  add = ours_panel.add;
  command = ours_panel.command;
  hear = ours_panel.hear;
  tell = λ p i l. without_erra (ours_panel.tell p i l);
  lose = ours_panel.lose;
}
