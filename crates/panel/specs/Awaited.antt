-- The state of the connection to a projector (RULES, Panel).
--   talk_begun g                   the talk that begins with the greeting g
--   awaits_of e                    what is awaited from the projector of the entry e
-- Assumes nothing.
use Rattle.std.specs.Prelude.{if◌then◌else◌, ◌==◌}
use Rattle.text.specs.Flags.{is_raised}
use Rattle.panel.specs.Entries.{Talk, ungreeted, greeted_open, greeted_secured, greeted_by, no_talk}
use Rattle.panel.specs.declared.types.PanelEntry.{PanelEntry}
use Rattle.panel.specs.declared.talk.Greeted.{Greeted}
use Rattle.panel.specs.declared.talk.Greeted.TheVariants.{NotYet, Open, Secured}
use Rattle.panel.specs.declared.talk.Awaits.{Awaits}
use Rattle.panel.specs.declared.talk.Awaits.TheVariants.{Greeting, Nothing, Reply}

abbrev pub talk_begun : Greeted → Talk
talk_begun NotYet = no_talk
talk_begun Open = greeted_by greeted_open 0
talk_begun (Secured random) = greeted_by greeted_secured random

abbrev pub awaits_of : PanelEntry → Awaits
awaits_of e =
    if e.greeting == ungreeted then Greeting
    else if is_raised e.under_way then Reply e.command
    else Nothing
