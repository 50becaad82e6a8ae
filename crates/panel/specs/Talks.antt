-- What happens to an entry, one event after the other, and which commands of one talk the digest leads. A talk goes
-- from a greeting until a new one is awaited.
--   Happens            an event: a command to be sent, a line, or the loss of the connection
--   after_it e x       the entry e after the event x; a command that is refused changes nothing
--   is_sent e x        the event x is a command that is sent
--   led_in_talk e xs   for each command sent in the talk of e, in order, whether the digest leads it
--   is_first_led bs    the digest leads the first of these commands and no other
-- Assumes nothing.
use Rattle.std.specs.List.{list_all}
use Rattle.std.specs.Prelude.{Bool, true, false, not, ◌&&◌, List, [], ◌∷◌, ◌++◌, ℕ, is_some, if◌then◌else◌, ◌==◌}
use Rattle.codes.specs.Commands.{coded_command}
use Rattle.codes.specs.declared.command.Coded.{Coded}
use Rattle.panel.specs.Entries.{talk_of, ungreeted, leads_next}
use Rattle.panel.specs.Stepping.{heard_line, lost_entry, sent_entry, is_unready}
use Rattle.panel.specs.declared.types.PanelEntry.{PanelEntry}

pub data Happens : Type 0 where
  sends : Coded → Happens
  hears : List ℕ → Happens
  loses : Happens

abbrev pub is_sent : PanelEntry → Happens → Bool
is_sent e (sends k) = is_some (coded_command k) && not (is_unready e)
is_sent e (hears l) = false
is_sent e loses = false

abbrev pub after_it : PanelEntry → Happens → PanelEntry
after_it e (sends k) = if is_sent e (sends k) then sent_entry e k else e
after_it e (hears l) = heard_line e l
after_it e loses = lost_entry e

abbrev pub led_in_talk : PanelEntry → List Happens → List Bool
led_in_talk e [] = []
led_in_talk e (x ∷ xs) =
    if e.greeting == ungreeted then []
    else (if is_sent e x then leads_next (talk_of e) ∷ [] else []) ++ led_in_talk (after_it e x) xs

abbrev pub is_first_led : List Bool → Bool
is_first_led [] = true
is_first_led (b ∷ bs) = b && list_all not bs
