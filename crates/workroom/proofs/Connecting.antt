-- A projector just added, with the password of a device that has a free place, is apart from it, and nothing is shown
-- of it. The greeting joins a panel and a device that were apart, with a password or without, at the place that opening
-- takes; a connection that is gone leaves them apart, however it stood.
-- Assumes nothing.
use Rattle.std.proofs.Common.{ℕ, ◌^◌, ◌-◌, ◌≤◌, ◌<◌, ◌≡◌, refl, sym, ap, subst, ◌∙◌, Bool, true, false, List}
use Rattle.std.proofs.Common.{arith, length, slice_index_or, replicate, get_or-set_same}
use Rattle.std.proofs.Math.Seq.{take-append_seam}
use Rattle.text.specs.Flags.{is_raised}
use Rattle.text.proofs.Orders.{le_or_lt}
use Rattle.pjlink.specs.Forms.{greeting_open, greeting_secured}
use Rattle.digest.specs.Hex.{hex_digits}
use Rattle.record.specs.Limits.{places_count, phase_awaiting, phase_open}
use Rattle.words.specs.Texts.{is_password}
use Rattle.record.specs.Legal.{is_connection, is_legal}
use Rattle.record.specs.Places.{no_connection, connection_at, with_place, is_closed, lowest_closed}
use Rattle.record.specs.Record.{closed}
use Rattle.record.specs.declared.types.Connection.{Connection}
use Rattle.record.specs.declared.types.Device.{Device}
use Rattle.record.proofs.LegalTold.{legal_settings, legal_own, legal_connections, legal_places, legal_by_parts}
use Rattle.record.proofs.ConnectionsTold.{placed_here, placed_legal}
use Rattle.record.proofs.Spelt.{closed_spelt}
use Rattle.stream.specs.Collecting.{empty_line}
use Rattle.device.specs.Receiving.{begun_in, set_up_password}
use Rattle.text.specs.Outcomes.{CallResult, call_number, number_answered}
use Rattle.record.specs.declared.refusal.Refusal.{Refusal}
use Rattle.device.specs.Calls.{reply_room, opened_by, closed_by}
use Rattle.device.proofs.Cases.{opened_greeted, greeted_by_lem, closed_by_lem, closed_at_place}
use Rattle.device.proofs.Legal.{greeted_legal, closing_legal}
use Rattle.device.proofs.Untouched.{closing_keeps_settings, closing_keeps_own}
use Rattle.record.proofs.LowestClosed.{below_lowest}
use Rattle.pjlink.specs.Greetings.{read_greeting}
use Rattle.pjlink.proofs.GreetingsHeard.{open_heard, secured_heard}
use Rattle.panel.specs.AnyPanel.{ours_panel}
use Rattle.panel.specs.Entries.{Talk, shown_of, password_in, greeted_open, greeted_secured, greeted_by, fresh_entry}
use Rattle.panel.specs.Passwords.{password_room}
use Rattle.panel.specs.LegalPanels.{panel_most, is_panel}
use Rattle.panel.specs.Stepping.{with_talk, greeted_as}
use Rattle.panel.specs.PanelCalls.{entry_at, grown_by, added_to, stepped_at}
use Rattle.panel.specs.declared.types.PanelEntry.{PanelEntry}
use Rattle.panel.specs.Refusals.{panel_refusal_number}
use Rattle.panel.specs.declared.types.Panel.{Panel}
use Rattle.panel.specs.declared.refusal.PanelRefusal.{PanelRefusal}
use Rattle.panel.proofs.Cases.{added_by, added_done}
use Rattle.panel.proofs.PanelsLegal.{added_stays_legal}
use Rattle.panel.proofs.PanelsTold.{panel_told}
use Rattle.panel.proofs.StepsByTable.{step_greets}
use Rattle.workroom.specs.Workroom.{Workroom, room_of, delivered, connected_as, connected, parted}
use Rattle.workroom.specs.ShowsWhatWasMeant.{Fit, both_open, both_secured, our_entry, IsAcquainted, Apart}
use Rattle.workroom.specs.ShowsWhatWasMeant.{BegunAs, ShownAs, PartedAs}
use Rattle.workroom.specs.PanelDemand.{IsServed}
use Rattle.workroom.proofs.EntriesStep.{entry_at-stepped_at, heard_served, entry_at-lost_at, lost_served}
use Rattle.workroom.proofs.EntriesStep.{delivered-cons}
use Rattle.workroom.proofs.Standing.{acquainted_then, shown_as_it_stands}

-- a closed place is free
closed_is_free : (cs : List Connection) (p : ℕ) → is_closed (slice_index_or cs p no_connection) ≡ true
    → lowest_closed cs ≤ p
closed_is_free cs p e = grind (arith, below_lowest, le_or_lt)

module _ (i : ℕ) (w : Workroom) where
  abbrev entry : PanelEntry
  entry = our_entry i w

  abbrev device : Device
  device = w.device

  abbrev lowest : ℕ
  lowest = lowest_closed device.connections

  abbrev with_connection : Connection → Device
  with_connection c = with_place device device.own lowest c

  known_served : IsAcquainted i w → IsServed w.panel i
  known_served a = record { legal = a.panel; there = a.there }

  module _ (apart : Apart i w) (back : List ℕ) where
    abbrev known : IsAcquainted i w
    known = apart.acquainted

    -- a greeting that the panel hears as the talk t
    module _ (l : List ℕ) (c : Connection) (t : Talk) (legal : is_connection c ≡ true) (fits : Fit t c)
        (between : c.line ≡ empty_line) (rests : is_raised t.under_way ≡ false)
        (heard : greeted_as entry (read_greeting l) ≡ with_talk entry t) where
      abbrev after : Panel
      after = (stepped_at w.panel i l).leaves

      entry_then : entry_at after i ≡ with_talk entry t
      entry_then = grind (arith, entry_at-stepped_at, known_served, step_greets)

      greeting_joins : ShownAs i lowest w (shown_of entry) device.own (room_of after (with_connection c))
      greeting_joins =
          shown_as_it_stands known
          (record {
            served = heard_served w.panel i (known_served known) l;
            stands = entry_then;
            password = refl;
            strays = refl;
          })
          apart.free
          (record {
            legal = legal_by_parts (with_connection c) (legal_settings device known.device)
                (legal_own device known.device)
                (placed_legal device.connections (legal_connections device known.device) lowest c legal);
            settings = refl;
            stands = placed_here device (legal_places device known.device) lowest apart.free device.own c;
            between = between;
          })
          rests fits

    -- by whether there is a password
    abbrev JoinsBy : List ℕ → Connection → Type 0
    JoinsBy g c = is_connection c ≡ true → ShownAs i lowest w (shown_of entry) device.own
        (room_of (delivered ours_panel i w.panel back g) (with_connection c))

    -- a greeting, which the panel hears whole, as the talk t
    joins : (g : List ℕ) (c : Connection) (t : Talk)
        → delivered ours_panel i w.panel back g ≡ (stepped_at w.panel i g).leaves → Fit t c
        → c.line ≡ empty_line → is_raised t.under_way ≡ false → greeted_as entry (read_greeting g) ≡ with_talk entry t
        → JoinsBy g c
    joins g c t whole fits between rests heard legal =
        subst (λ (p : Panel). ShownAs i lowest w (shown_of entry) device.own (room_of p (with_connection c)))
        (sym whole) (greeting_joins g c t legal fits between rests heard)

    secured_joins : (r : ℕ) → r < 2 ^ 32 → JoinsBy (greeting_secured (hex_digits 8 r)) (begun_in phase_awaiting r)
    secured_joins r word =
        joins _ _ (greeted_by greeted_secured r) (delivered-cons i w.panel back _ _)
        (both_secured refl (λ none. omega arith) refl refl) refl refl (ap (greeted_as entry) (secured_heard r word))

    open_joins : (r : ℕ) → JoinsBy greeting_open (begun_in phase_open r)
    open_joins r =
        joins _ _ (greeted_by greeted_open 0) (delivered-cons i w.panel back _ _)
        (both_open refl (λ none. omega arith) refl) refl refl (ap (greeted_as entry) open_heard)

    pub greeted_joined : (r : ℕ) → r < 2 ^ 32
        → ShownAs i (number_answered (opened_by device r reply_room)) w (shown_of entry) device.own
        (connected ours_panel i w r back)
    greeted_joined r word =
        subst (λ (q : CallResult Refusal ℕ Device). ShownAs i (number_answered q) w (shown_of entry) device.own
        (connected_as ours_panel i w.panel back q))
        (sym (opened_greeted device r reply_room known.device (omega arith) apart.free))
        (greeted_by_lem device.settings r JoinsBy (secured_joins r word) (open_joins r)
        (greeted_legal device.settings r))

-- the connection is gone
module _ (i p : ℕ) (w : Workroom) (known : IsAcquainted i w) (place : p < places_count) where
  abbrev before : Device
  before = w.device

  abbrev gone : Device
  gone = (closed_by before p).leaves

  closed_there : is_closed (connection_at gone p) ≡ true
  closed_there = by (is_closed (connection_at before p)) refl
    where
      closes : connection_at (with_place before before.own p closed) p ≡ closed
      closes = placed_here before (legal_places before known.device) p place before.own closed

      by : (t : Bool) → is_closed (connection_at before p) ≡ t → is_closed (connection_at gone p) ≡ true
      by true e =
          closed_by_lem before p (λ r. is_closed (connection_at r.leaves p) ≡ true) (λ n other. e)
          (λ legal there live. ap is_closed (closes ∙ closed_spelt))
      by false e =
          ap (λ (r : CallResult Refusal (Unit {0}) Device). is_closed (connection_at r.leaves p))
          (closed_at_place before p known.device place e)
          ∙ ap is_closed (closes ∙ closed_spelt)

  pub parted_apart : PartedAs i w (parted ours_panel i p w)
  parted_apart =
      let served = known_served i w known in
      let lost = entry_at-lost_at w.panel i served in
      let free = closed_is_free gone.connections p closed_there in
      record {
        shows = ap (λ (e : PanelEntry). shown_of e) lost;
        strays = ap (λ (e : PanelEntry). e.strays) lost;
        settings = closing_keeps_settings before p;
        does = closing_keeps_own before p;
        apart = record {
          acquainted = acquainted_then known
              (record { served = lost_served w.panel i served; stands = lost; password = refl; strays = refl })
              (closing_legal before known.device p) (closing_keeps_settings before p);
          waiting = ap (λ (e : PanelEntry). e.greeting) lost;
          free = omega (arith, place, free);
        };
      }

-- a projector just added
module _ (p : Panel) (s : List ℕ) (d : Device) where
  abbrev Begun : CallResult PanelRefusal (Unit {0}) Panel → Type 0
  Begun r = call_number panel_refusal_number r ≡ 0 → is_legal d ≡ true → lowest_closed d.connections < places_count
      → set_up_password d.settings ≡ s
      → BegunAs p.count (room_of r.leaves d)

  module _ (legal : is_panel p ≡ true) (word : is_password s ≡ true) (free : p.count < panel_most) where
    abbrev grown : Panel
    grown = grown_by p (fresh_entry s)

    placed_last : entry_at grown p.count ≡ fresh_entry s
    placed_last = grind (arith, panel_told, get_or-set_same)

    grown_legal : is_panel grown ≡ true
    grown_legal =
        ap (λ (r : CallResult PanelRefusal (Unit {0}) Panel). is_panel r.leaves) (sym (added_done p s legal word free))
        ∙ added_stays_legal p legal s

    password_in-fresh_entry : password_in (fresh_entry s) ≡ s
    password_in-fresh_entry = take-append_seam s (replicate (password_room - length s) 0)

  pub added_apart : Begun (added_to p s)
  added_apart =
      added_by p s Begun (λ n other zero. absurd (other zero))
      (λ legal word free zero known place same.
      let last = placed_last legal word free in
      record {
        shows = ap (λ (e : PanelEntry). shown_of e) last;
        strays = ap (λ (e : PanelEntry). e.strays) last;
        apart = record {
          acquainted = record {
            panel = grown_legal legal word free;
            there = omega arith;
            device = known;
            password = ap password_in last ∙ password_in-fresh_entry legal word free ∙ sym same;
          };
          waiting = ap (λ (e : PanelEntry). e.greeting) last;
          free = place;
        };
      })
