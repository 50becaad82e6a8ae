-- A panel, one of whose projectors is a device of ours, to which it is connected at one of the device's four places
-- (RULES, Places), and what happens in the workroom: any of this, in any order.
--   cut_at ns l         the bytes l in parts: the first n bytes, for the first n of ns, and so on; the rest is the last
--                       part. `stream_of` joins them again, and no cutting is left out (`any_cuts`)
--   Workroom            the panel, and the device
--   asks k there back   the panel sends the command k: its line comes there in the cuts `there`, each part passed on
--                       until it is taken; the reply comes back in the cuts `back`. Of a refused command nothing is
--                       sent
--   waits n             n seconds pass on the device
--   asks_another j k, hears-another j l     the same panel sends to its projector j, and hears any line from it
--   meanwhile d         another controller of the device does something at its own place, or the host: the device is
--                       now d
--   connected P i w r back     the device opens with the random number r, at the place that it answers; its
--                       greeting comes back in the cuts `back`
--   happened P i p w h, all_happened P i p w hs    the workroom after this, on the panel P whose projector i is the
--                       device, connected at place p
--   parted P i p w      the connection is gone: the device closes it, and the panel records it
-- The host joins what comes back to whole lines, and passes every one to the panel, once; no bytes are no line.
-- Assumes nothing.
use Rattle.std.specs.Prelude.{ℕ, List, [], ◌∷◌, take, drop, if◌then◌else◌, ◌==◌}
use Rattle.text.specs.Outcomes.{CallResult, number_answered}
use Rattle.record.specs.declared.refusal.Refusal.{Refusal}
use Rattle.record.specs.declared.types.Device.{Device}
use Rattle.clock.specs.Passing.{time_passed}
use Rattle.stream.specs.Machine.{Out, Took, handed_parts, stream_of}
use Rattle.device.specs.Calls.{reply_room, received_at, opened_by, closed_by}
use Rattle.controller.specs.Writing.{command_room}
use Rattle.codes.specs.declared.command.Coded.{Coded}
use Rattle.panel.specs.AnyPanel.{AnyPanel, PanelAs}
use Rattle.panel.specs.declared.types.Panel.{Panel}

abbrev pub cut_at : List ℕ → List ℕ → List (List ℕ)
cut_at [] l = l ∷ []
cut_at (n ∷ ns) l = take n l ∷ cut_at ns (drop n l)

pub record Workroom : Type 0 where
  pub panel : Panel
  pub device : Device

abbrev pub room_of : Panel → Device → Workroom
room_of p d = record { panel = p; device = d }

pub data RoomMove : Type 0 where
  asks : (k : Coded) (there back : List ℕ) → RoomMove
  waits : (seconds : ℕ) → RoomMove
  asks_another : (j : ℕ) (k : Coded) → RoomMove
  hears_another : (j : ℕ) (l : List ℕ) → RoomMove
  meanwhile : (d : Device) → RoomMove

-- receiving, with room for every reply
abbrev pub took_as : CallResult Refusal ℕ Device → Took Device
took_as r = record { taken = number_answered r; state = r.leaves; reply = r.bytes }

abbrev pub handed_there : Device → ℕ → List ℕ → List ℕ → Out Device
handed_there d p there line = handed_parts (λ x bs. took_as (received_at x p bs reply_room)) d (cut_at there line)

module _ (P : AnyPanel) (i : ℕ) where
  abbrev pub delivered : Panel → List ℕ → List ℕ → Panel
  delivered p back [] = p
  delivered p back (b ∷ bs) = (P.hear p i (stream_of (cut_at back (b ∷ bs)))).panel

  -- what comes back of a reply, to the panel that sent
  abbrev pub answered_back : Panel → List ℕ → Out Device → Workroom
  answered_back p back o = room_of (delivered p back o.reply) o.state

  abbrev pub connected_as : Panel → List ℕ → CallResult Refusal ℕ Device → Workroom
  connected_as p back r = room_of (delivered p back r.bytes) r.leaves

  abbrev pub connected : Workroom → (random : ℕ) (back : List ℕ) → Workroom
  connected w random back = connected_as w.panel back (opened_by w.device random reply_room)

  module _ (place : ℕ) where
    abbrev pub asked_as : PanelAs → Device → List ℕ → List ℕ → Workroom
    asked_as r d there back =
        if r.number == 0 then answered_back r.panel back (handed_there d place there r.line)
        else room_of r.panel d

    abbrev pub happened : Workroom → RoomMove → Workroom
    happened w (asks k there back) = asked_as (P.command w.panel i k command_room) w.device there back
    happened w (waits n) = room_of w.panel (time_passed w.device n).leaves
    happened w (asks_another j k) = room_of (P.command w.panel j k command_room).panel w.device
    happened w (hears_another j l) = room_of (P.hear w.panel j l).panel w.device
    happened w (meanwhile d) = room_of w.panel d

    abbrev pub all_happened : Workroom → List RoomMove → Workroom
    all_happened w [] = w
    all_happened w (h ∷ hs) = all_happened (happened w h) hs

    abbrev pub parted : Workroom → Workroom
    parted w = room_of (P.lose w.panel i).panel (closed_by w.device place).leaves
