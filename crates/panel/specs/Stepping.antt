-- What a line does to an entry, and what a command does (RULES, Panel). Each clause is a sentence there.
--   with_stray e        the entry e after a late, foreign or malformed line: only the count of such lines changes, and
--                       it stops at 65,535
--   greeted_as e g      the entry e after a line while the greeting is awaited: any line but a greeting is malformed,
--                       the ERRA line too
--   heard_line e l      the entry e after the line l; without a command under way any line is late
--   heard_as e o m      the entry e after a reply: a malformed or foreign one leaves the command under way; an accepted
--                       one ends it, and an OK or an error changes no reading; ERRA ends it, makes all readings unknown
--                       and awaits a new greeting. A reading with 10 or 12 is malformed, one with 11 is foreign
--   lost_entry e        the connection is gone (docs/DECISIONS.md): as after ERRA, but the readings stay
--   sent_entry e k      the entry e after the command k was sent
--   is_unready e        a command to e is refused: it is before the greeting, or another is under way
--   command_sent e c room    what is sent of the command c: the digest leads the first one after a secured greeting
--   line_sent e m room       the same of the command m that a code stands for; nothing if it stands for none
-- Lines are read by the controller's own readers, read_greeting and read_reply, and written by its writer.
-- Assumes nothing.
use Rattle.std.specs.Prelude.{ℕ, ◌+◌, min, Bool, not, ◌||◌, List, [], if◌then◌else◌, Option, Some, None, ◌==◌}
use Rattle.text.specs.Flags.{is_raised}
use Rattle.pjlink.specs.declared.command.Command.{Command}
use Rattle.pjlink.specs.Said.{Said}
use Rattle.pjlink.specs.Greetings.{read_greeting}
use Rattle.controller.specs.Reading.{ReadAs, read_reply, ReadingOutcome, means_it, erra_said}
use Rattle.controller.specs.Writing.{written_command}
use Rattle.pjlink.specs.declared.greeting.Greeting.{Greeting}
use Rattle.pjlink.specs.declared.greeting.Greeting.TheVariants.{Open, Secured}
use Rattle.codes.specs.Commands.{coded_command}
use Rattle.codes.specs.declared.command.Coded.{Coded}
use Rattle.panel.specs.Entries.{Talk, Shown, talk_of, shown_of, password_in, entry_of, ungreeted, greeted_open}
use Rattle.panel.specs.Entries.{greeted_secured, no_talk, greeted_by, leads_next, sent_on, rested_on, nothing_shown}
use Rattle.panel.specs.Showing.{showing}
use Rattle.panel.specs.declared.types.PanelEntry.{PanelEntry}

abbrev pub strays_most : ℕ
strays_most = 65535

abbrev pub with_stray : PanelEntry → PanelEntry
with_stray e = entry_of e.password (talk_of e) (shown_of e) (min strays_most (e.strays + 1))

abbrev pub with_talk : PanelEntry → Talk → PanelEntry
with_talk e t = entry_of e.password t (shown_of e) e.strays

abbrev pub with_shown : PanelEntry → Shown → PanelEntry
with_shown e s = entry_of e.password (talk_of e) s e.strays

abbrev pub answered_entry : PanelEntry → Said → PanelEntry
answered_entry e m = entry_of e.password (rested_on (talk_of e)) (showing (shown_of e) m) e.strays

abbrev pub erra_entry : PanelEntry → PanelEntry
erra_entry e = entry_of e.password no_talk nothing_shown e.strays

abbrev pub lost_entry : PanelEntry → PanelEntry
lost_entry e = with_talk e no_talk

abbrev pub sent_entry : PanelEntry → Coded → PanelEntry
sent_entry e k = with_talk e (sent_on (talk_of e) k)

abbrev pub greeted_as : PanelEntry → Option Greeting → PanelEntry
greeted_as e (Some Open) = with_talk e (greeted_by greeted_open 0)
greeted_as e (Some (Secured random)) = with_talk e (greeted_by greeted_secured random)
greeted_as e g = with_stray e

abbrev pub heard_as : PanelEntry → ReadingOutcome → Said → PanelEntry
heard_as e means_it m = answered_entry e m
heard_as e erra_said m = erra_entry e
heard_as e o m = with_stray e

abbrev pub heard_by : PanelEntry → ReadAs → PanelEntry
heard_by e r = heard_as e r.outcome r.said

-- in a legal entry the command under way is one
abbrev pub replied_to : PanelEntry → Option Command → List ℕ → PanelEntry
replied_to e (Some c) l = heard_by e (read_reply c l)
replied_to e None l = with_stray e

unfoldable pub heard_line : PanelEntry → List ℕ → PanelEntry
heard_line e l =
    if e.greeting == ungreeted then greeted_as e (read_greeting l)
    else if not (is_raised e.under_way) then with_stray e
    else replied_to e (coded_command e.command) l

abbrev pub is_unready : PanelEntry → Bool
is_unready e = e.greeting == ungreeted || is_raised e.under_way

unfoldable pub command_sent : PanelEntry → Command → ℕ → List ℕ
command_sent e c room = (written_command c (leads_next (talk_of e)) e.random (password_in e) room).bytes

abbrev pub line_sent : PanelEntry → Option Command → ℕ → List ℕ
line_sent e (Some c) room = command_sent e c room
line_sent e None room = []
