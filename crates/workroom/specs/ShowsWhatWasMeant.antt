-- THE PANEL SHOWS WHAT THE PROJECTOR MEANT (RULES, Panel, joined with the projector). A projector of the panel is one
-- of our devices, joined to it by a connection at one of its places, whatever the other places hold (RULES, Places);
-- any commands of a class no higher than the device's (RULES, Class 2), in any order, with any seconds between,
-- whatever other controllers and the host do there meanwhile, and every reply delivered, in whatever cuts. After each
-- reply what is shown of its power, input and lamps is what was shown before, and on it what the device meant when it
-- answered, open or secured: so after all of them it is what the tables of `meaning` and `clock` make of the same
-- commands and seconds, and of what others left. A command of a higher class gets no reply, and stays under way.
-- TO BELIEVE IT, believe, and nothing else: what is meant and done (meaning/specs), what a second does (clock/specs/
-- Second), the codes of the commands (codes/specs/Commands) and their classes (pjlink/specs/Bodies), what is shown of
-- what was said (`showing` of panel/specs/Showing), the records (record/specs, panel/specs: Entries, LegalPanels), a
-- command under way (`IsUnderWay` of panel/specs/StepTable), a stream in cuts (stream/specs/Machine), the device's
-- calls (device/specs/Calls) as demand 2 has them, any panel (panel/specs/AnyPanel); here Workroom and MeantThrough.
--   IsAcquainted i w   a legal panel that has the projector i, a legal device, one password
--   Apart i w          no greeting is accepted, and a place of the device is free
--   Fit t c            the panel's talk t and the connection c: open on both sides, or the digest is awaited and will
--                      lead
--   IsJoined i p w     on the connection at place p, between lines, with no command under way
--   Aside p d e        the device d became e, which is legal, with the same settings and the same connection at place p
--   IsKeptUp i p w h   the connection does not close of age; a command is of a class no higher than the device's, what
--                      is called another projector is another, and what is done meanwhile is aside (`IsOther`)
--   ShownAs i p w v o x     in the workroom x, which was w, v is shown and the own part is o; no stray was counted, and
--                      it is joined
--   UnansweredAs i w c x     in the workroom x, which was w, the command c is under way, and nothing else changed
--   OthersAside p d    receiving, opening and closing at other places of d, and the host's calls on it, are aside
--   BegunAs i w        nothing was heard yet
--   PartedAs i w x     the connection is gone: what was shown stays, and they are apart
-- Assumes nothing.
use Rattle.std.specs.Prelude.{ℕ, ◌+◌, ◌<◌, ◌^◌, ◌≡◌, Bool, true, false, List, [], ◌∷◌, Some, is_some}
use Rattle.text.specs.Flags.{is_raised}
use Rattle.pjlink.specs.Commands.{command_class}
use Rattle.pjlink.specs.declared.command.Command.{Command}
use Rattle.record.specs.Limits.{places_count, age_end, phase_awaiting, phase_open}
use Rattle.record.specs.Legal.{is_legal}
use Rattle.record.specs.Places.{connection_at, is_closed, lowest_closed}
use Rattle.record.specs.HostCalls.{fault_set, errors_set, mark_set}
use Rattle.record.specs.declared.types.Own.{Own}
use Rattle.record.specs.declared.types.Connection.{Connection}
use Rattle.record.specs.declared.types.Device.{Device}
use Rattle.clock.specs.Passing.{time_passed}
use Rattle.stream.specs.Collecting.{empty_line}
use Rattle.device.specs.Receiving.{set_up_password}
use Rattle.text.specs.Outcomes.{number_answered}
use Rattle.device.specs.Calls.{reply_room, received_at, opened_by, closed_by}
use Rattle.codes.specs.Commands.{coded_command}
use Rattle.codes.specs.declared.command.Coded.{Coded}
use Rattle.panel.specs.AnyPanel.{AnyPanel}
use Rattle.panel.specs.Entries.{Talk, Shown, talk_of, shown_of, password_in, ungreeted, leads_next, nothing_shown}
use Rattle.panel.specs.Showing.{showing}
use Rattle.panel.specs.LegalPanels.{is_panel}
use Rattle.panel.specs.StepTable.{IsUnderWay}
use Rattle.panel.specs.PanelCalls.{entry_at}
use Rattle.panel.specs.declared.types.PanelEntry.{PanelEntry}
use Rattle.panel.specs.declared.types.Panel.{Panel}
use Rattle.workroom.specs.Workroom.{Workroom, room_of, RoomMove, asks, waits, asks_another, hears_another, meanwhile}
use Rattle.workroom.specs.Workroom.{connected, happened, all_happened, parted}
use Rattle.workroom.specs.MeantThrough.{IsWithin, said_at, own_at, shown_through, own_through}

pub data Fit (t : Talk) (c : Connection) : Type 0 where
  both_open : c.phase ≡ phase_open → (t.greeting ≡ ungreeted → ⊥) → leads_next t ≡ false → Fit t c
  both_secured : c.phase ≡ phase_awaiting → (t.greeting ≡ ungreeted → ⊥) → leads_next t ≡ true → t.random ≡ c.random
      → Fit t c

pub record Aside (p : ℕ) (before after : Device) : Type 0 where
  pub settings : after.settings ≡ before.settings
  pub device : is_legal after ≡ true
  pub connection : connection_at after p ≡ connection_at before p

module _ (i : ℕ) where
  abbrev pub our_entry : Workroom → PanelEntry
  our_entry w = entry_at w.panel i

  pub record IsAcquainted (w : Workroom) : Type 0 where
    pub panel : is_panel w.panel ≡ true
    pub there : i < w.panel.count
    pub device : is_legal w.device ≡ true
    pub password : password_in (our_entry w) ≡ set_up_password w.device.settings

  pub record Apart (w : Workroom) : Type 0 where
    pub acquainted : IsAcquainted w
    pub waiting : (our_entry w).greeting ≡ ungreeted
    pub free : lowest_closed w.device.connections < places_count

  pub record PartedAs (w x : Workroom) : Type 0 where
    pub shows : shown_of (our_entry x) ≡ shown_of (our_entry w)
    pub strays : (our_entry x).strays ≡ (our_entry w).strays
    pub settings : x.device.settings ≡ w.device.settings
    pub does : x.device.own ≡ w.device.own
    pub apart : Apart x

  pub record UnansweredAs (w : Workroom) (c : Command) (x : Workroom) : Type 0 where
    pub shows : shown_of (our_entry x) ≡ shown_of (our_entry w)
    pub strays : (our_entry x).strays ≡ (our_entry w).strays
    pub settings : x.device.settings ≡ w.device.settings
    pub does : x.device.own ≡ w.device.own
    pub still : IsUnderWay (our_entry x) c

  pub record BegunAs (w : Workroom) : Type 0 where
    pub shows : shown_of (our_entry w) ≡ nothing_shown
    pub strays : (our_entry w).strays ≡ 0
    pub apart : Apart w

abbrev pub our_connection : ℕ → Workroom → Connection
our_connection p w = connection_at w.device p

module _ (i p : ℕ) where
  pub record IsJoined (w : Workroom) : Type 0 where
    pub acquainted : IsAcquainted i w
    pub place : p < places_count
    pub between : (our_connection p w).line ≡ empty_line
    pub rests : is_raised (our_entry i w).under_way ≡ false
    pub fit : Fit (talk_of (our_entry i w)) (our_connection p w)

  -- of a command, of what is called another, and of what is done meanwhile
  abbrev pub IsOther : Workroom → RoomMove → Type 0
  IsOther w (asks k there back) = IsWithin w.device.settings (coded_command k)
  IsOther w (waits n) = Unit {0}
  IsOther w (asks_another j k) = j ≡ i → ⊥
  IsOther w (hears_another j l) = j ≡ i → ⊥
  IsOther w (meanwhile d) = Aside p w.device d

  abbrev pub IsKeptUp : Workroom → RoomMove → Type 0
  IsKeptUp w (waits n) = is_closed (connection_at (time_passed w.device n).leaves p) ≡ false
  IsKeptUp w h = IsOther w h

  -- each, where it comes
  abbrev pub Throughout : (Workroom → RoomMove → Type 0) → AnyPanel → Workroom → List RoomMove → Type 0
  Throughout Holds P w [] = Unit {0}
  Throughout Holds P w (h ∷ hs) = Holds w h × Throughout Holds P (happened P i p w h) hs

  abbrev pub AllKeptUp : AnyPanel → Workroom → List RoomMove → Type 0
  AllKeptUp = Throughout IsKeptUp

  abbrev pub AllOther : AnyPanel → Workroom → List RoomMove → Type 0
  AllOther = Throughout IsOther

  pub record ShownAs (w : Workroom) (shown : Shown) (own : Own) (x : Workroom) : Type 0 where
    pub shows : shown_of (our_entry i x) ≡ shown
    pub strays : (our_entry i x).strays ≡ (our_entry i w).strays
    pub settings : x.device.settings ≡ w.device.settings
    pub does : x.device.own ≡ own
    pub joined : IsJoined x

-- what the other controllers of a device do at their places, and the host, is aside of a connection at place p (RULES,
-- Places)
pub record OthersAside (p : ℕ) (d : Device) : Type 0 where
  pub receiving : (q : ℕ) (bs : List ℕ) (room : ℕ) → (p ≡ q → ⊥) → Aside p d (received_at d q bs room).leaves
  pub closing : (q : ℕ) → (p ≡ q → ⊥) → Aside p d (closed_by d q).leaves
  pub opening : (random room : ℕ) → is_closed (connection_at d p) ≡ false → Aside p d (opened_by d random room).leaves
  pub fault : (mark : Bool) → Aside p d (fault_set d mark).leaves
  pub errors : (digits : List ℕ) → Aside p d (errors_set d digits).leaves
  pub marks : (lamp : ℕ) (mark : Bool) → Aside p d (mark_set d lamp mark).leaves

pub record ShowsWhatWasMeant (P : AnyPanel) : Type 0 where
  -- a projector just added, with the password of a device that has a free place: "unknown at first"
  pub begins : (p : Panel) (s : List ℕ) (d : Device) → (P.add p s).number ≡ 0 → is_legal d ≡ true
      → lowest_closed d.connections < places_count → set_up_password d.settings ≡ s
      → BegunAs p.count (room_of (P.add p s).panel d)
  -- the device greets, with or without security, and they are joined at the place that opening took; nothing else is
  -- shown yet
  pub joins : (i : ℕ) (w : Workroom) (random : ℕ) (back : List ℕ) → Apart i w → random < 2 ^ 32
      → ShownAs i (number_answered (opened_by w.device random reply_room)) w (shown_of (our_entry i w)) w.device.own
      (connected P i w random back)
  -- "after each accepted reply": every reply of the device is accepted, shows what was meant, and ends its command
  pub shows : (i p : ℕ) (w : Workroom) (h : RoomMove) → IsJoined i p w → IsKeptUp i p w h
      → let s = w.device.settings in
      let o = w.device.own in
      ShownAs i p w (showing (shown_of (our_entry i w)) (said_at s o h)) (own_at s o h) (happened P i p w h)
  -- and so over all that happens
  pub shows_through : (i p : ℕ) (w : Workroom) (hs : List RoomMove) → IsJoined i p w → AllKeptUp i p P w hs
      → let s = w.device.settings in
      let o = w.device.own in
      ShownAs i p w (shown_through s o (shown_of (our_entry i w)) hs) (own_through s o hs) (all_happened P i p w hs)
  -- a command of a class higher than the device's gets no reply: it stays under way till the connection is gone
  pub unanswered : (i p : ℕ) (w : Workroom) (k : Coded) (c : Command) (there back : List ℕ) → IsJoined i p w
      → coded_command k ≡ Some c → w.device.settings.class_number < command_class c
      → UnansweredAs i w c (happened P i p w (asks k there back))
  -- whatever others do with the device meanwhile may be among it
  pub others : (p : ℕ) (d : Device) → is_legal d ≡ true → OthersAside p d
  -- a connection that is open, as it is once anything was asked on it, never closes of age: then the commands and the
  -- seconds may be any
  pub stays_open : (i p : ℕ) (w : Workroom) (hs : List RoomMove) → IsJoined i p w
      → (our_connection p w).phase ≡ phase_open → AllOther i p P w hs
      → AllKeptUp i p P w hs
  pub asking_opens : (i p : ℕ) (w : Workroom) (k : Coded) (there back : List ℕ) → IsJoined i p w
      → is_some (coded_command k) ≡ true
      → (our_connection p (happened P i p w (asks k there back))).phase ≡ phase_open
  -- and one whose digest is awaited does not close before its age is 30 seconds
  pub stays_awaited : (i p : ℕ) (w : Workroom) (n : ℕ) → IsJoined i p w → (our_connection p w).phase ≡ phase_awaiting
      → (our_connection p w).age + n < age_end
      → IsKeptUp i p w (waits n)
  -- a connection that is gone, in whatever state, can be made again, and the readings stay until then
  pub parts : (i p : ℕ) (w : Workroom) → IsAcquainted i w → p < places_count → PartedAs i w (parted P i p w)
