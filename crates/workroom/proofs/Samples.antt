-- A panel of one projector, on which the wrong panels fall: open, without a password, its power shown as on.
--   asked strays     LAMP is asked of it
--   resting strays   nothing is
--   workroom         it, resting, with a device that is off, without a password and opened at place 0
-- Assumes nothing.
use Rattle.std.proofs.Common.{ℕ, refl, [], ◌∷◌, arith, replicate, codes}
use Rattle.pjlink.specs.declared.command.Command.TheVariants.{Query}
use Rattle.pjlink.specs.declared.body.Body.TheVariants.{Powr, Lamp}
use Rattle.record.specs.Limits.{phase_open}
use Rattle.record.specs.Record.{start_device}
use Rattle.record.specs.Wanted.{wanted_of}
use Rattle.record.specs.Places.{with_place}
use Rattle.record.specs.declared.types.Device.{Device}
use Rattle.device.specs.Receiving.{begun_in}
use Rattle.codes.specs.Commands.{code_of, coded_command}
use Rattle.panel.specs.Passwords.{password_of}
use Rattle.panel.specs.Entries.{Talk, entry_of, greeted_open, greeted_by, sent_on, nothing_shown, blank_entry}
use Rattle.panel.specs.Showing.{with_power_shown}
use Rattle.panel.specs.StepTable.{IsUnderWay}
use Rattle.panel.specs.PanelCalls.{entry_at}
use Rattle.panel.specs.declared.types.PanelEntry.{PanelEntry}
use Rattle.panel.specs.declared.types.Panel.{Panel}
use Rattle.workroom.specs.Workroom.{Workroom, room_of}
use Rattle.workroom.specs.MeantThrough.{IsWithin}
use Rattle.workroom.specs.ShowsWhatWasMeant.{IsJoined}
use Rattle.workroom.specs.PanelDemand.{IsServed}
use Rattle.workroom.specs.Computing.{computing}

abbrev talking : Talk → ℕ → PanelEntry
talking t strays = entry_of (password_of []) t (with_power_shown nothing_shown 1) strays

abbrev alone : PanelEntry → Panel
alone e = record { count = 1; entries = e ∷ replicate 7 blank_entry }

abbrev open_talk : Talk
open_talk = greeted_by greeted_open 0

abbrev pub resting : ℕ → Panel
resting strays = alone (talking open_talk strays)

abbrev pub asked : ℕ → Panel
asked strays = alone (talking (sent_on open_talk (code_of (Query Lamp))) strays)

pub resting_served : IsServed (resting 0) 0
unfolding computing
resting_served = record { legal = refl; there = omega arith }

pub full_served : IsServed (resting 65535) 0
unfolding computing
full_served = record { legal = refl; there = omega arith }

pub asked_served : IsServed (asked 0) 0
unfolding computing
asked_served = record { legal = refl; there = omega arith }

pub lamps_asked : IsUnderWay (entry_at (asked 0) 0) (Query Lamp)
unfolding computing
lamps_asked = record { greeted = λ none. omega arith; waits = refl; asked = refl }

abbrev opening : Device
opening = start_device (wanted_of [] [] [] [] [] (codes "11") (0 ∷ []) 20 60)

abbrev pub workroom : Workroom
workroom = room_of (resting 0) (with_place opening opening.own 0 (begun_in phase_open 0))

pub workroom_joined : IsJoined 0 0 workroom
unfolding computing
workroom_joined = grind arith

pub powr_within : IsWithin workroom.device.settings (coded_command (code_of (Query Powr)))
unfolding computing
powr_within = omega arith
