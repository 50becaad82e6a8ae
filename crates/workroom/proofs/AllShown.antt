-- Whatever happens on a joined connection that is kept up: it stays joined, and what was said is shown. Seconds pass
-- on the device alone, and there alone others do what they do meanwhile; what another projector is sent or says touches
-- that one's entry alone. An open connection is kept up always, and one whose digest is awaited for 30 seconds.
-- Assumes nothing.
use Rattle.std.proofs.Common.{arith, ℕ, ◌+◌, ◌<◌, ◌≡◌, refl, sym, ap, subst, ◌∙◌, true, false, List, [], ◌∷◌}
use Rattle.std.proofs.lemmas.Bool.{false≢true}
use Rattle.record.specs.Limits.{age_end, phase_awaiting, phase_open}
use Rattle.record.specs.Legal.{is_legal, is_timed}
use Rattle.record.specs.Places.{connection_at, is_closed}
use Rattle.record.specs.declared.types.Settings.{Settings}
use Rattle.record.specs.declared.types.Own.{Own}
use Rattle.record.specs.declared.types.Connection.{Connection}
use Rattle.record.specs.declared.types.Device.{Device}
use Rattle.record.proofs.Spelt.{closed_spelt}
use Rattle.text.specs.Outcomes.{CallResult}
use Rattle.record.specs.declared.refusal.Refusal.{Refusal}
use Rattle.stream.specs.Collecting.{empty_line}
use Rattle.clock.specs.After.{parts_after}
use Rattle.clock.specs.Second.{times, connection_second}
use Rattle.clock.specs.Passing.{time_passed}
use Rattle.clock.proofs.Cases.{passed_accepted}
use Rattle.clock.proofs.ConnectionsAge.{connection_then, grows_older}
use Rattle.clock.proofs.InOneGo.{parts_pass, place_passes}
use Rattle.clock.proofs.TimeLegal.{passed_legal}
use Rattle.clock.proofs.Untouched.{passed_leaves}
use Rattle.panel.specs.AnyPanel.{ours_panel}
use Rattle.panel.specs.Entries.{Talk, Shown, talk_of, shown_of}
use Rattle.panel.specs.Showing.{showing}
use Rattle.panel.specs.LegalPanels.{is_panel}
use Rattle.panel.specs.declared.types.PanelEntry.{PanelEntry}
use Rattle.panel.specs.declared.types.Panel.{Panel}
use Rattle.panel.proofs.OnlyItsEntry.{OnlyAt, step_touches_its_entry, command_touches_its_entry}
use Rattle.panel.proofs.PanelsLegal.{commanded_stays_legal, stepped_stays_legal}
use Rattle.workroom.specs.Workroom.{Workroom, room_of, happened, all_happened}
use Rattle.workroom.specs.Workroom.{RoomMove, asks, waits, asks_another, hears_another, meanwhile}
use Rattle.workroom.specs.MeantThrough.{said_at, own_at, shown_through, own_through}
use Rattle.workroom.specs.ShowsWhatWasMeant.{Fit, our_entry, our_connection, IsJoined, IsOther}
use Rattle.workroom.specs.ShowsWhatWasMeant.{IsKeptUp, AllOther, AllKeptUp, Aside, ShownAs}
use Rattle.workroom.proofs.EntriesStep.{still_served}
use Rattle.workroom.proofs.Standing.{shown_as_it_stands, joined_served, device_as_it_was, panel_as_it_was}
use Rattle.workroom.proofs.CommandsAnswered.{as_it_was, command_shown, open_asked}

-- a connection that is not closed of age still fits
record FitsStill (t : Talk) (c : Connection) : Type 0 where
  fit : Fit t c
  between : c.line ≡ empty_line

abbrev UnlessShut : Talk → Connection → Type 0
UnlessShut t c = is_closed c ≡ false → FitsStill t c

older_fits : {t : Talk} (c : Connection) (age : ℕ) → Fit t c
    → Fit t (record { phase = c.phase; age = age; random = c.random; line = c.line })
older_fits c age fit = grind arith

seconds_fit : (t : Talk) (n : ℕ) (c : Connection) → FitsStill t c → UnlessShut t (times connection_second n c)
seconds_fit t n c fits =
    connection_then (UnlessShut t)
    (λ live. absurd (false≢true (sym live ∙ ap is_closed closed_spelt)))
    (λ k age still live. record { fit = older_fits k age (still live).fit; between = (still live).between })
    n c (λ live. fits)

module _ (i p : ℕ) (w : Workroom) (j : IsJoined i p w) where
  abbrev entry : PanelEntry
  entry = our_entry i w

  abbrev device : Device
  device = w.device

  abbrev connection : Connection
  connection = connection_at device p

  time_keeps : (n : ℕ) → is_closed (connection_at (time_passed device n).leaves p) ≡ false
      → ShownAs i p w (shown_of entry) (own_at device.settings device.own (waits n))
      (happened ours_panel i p w (waits n))
  time_keeps n live =
      let then : (time_passed device n).leaves ≡ parts_after n device
      = ap (λ (c : CallResult Refusal (Unit {0}) Device). c.leaves) (passed_accepted device n j.acquainted.device)
      ∙ parts_pass n device in
      let here : connection_at (parts_after n device) p ≡ times connection_second n connection
      = ap (λ (d : Device). connection_at d p) (sym (parts_pass n device)) ∙ place_passes n device p in
      let still = seconds_fit (talk_of entry) n connection (record { fit = j.fit; between = j.between })
      (ap is_closed (sym here) ∙ sym (ap (λ (d : Device). is_closed (connection_at d p)) then) ∙ live) in
      subst (λ (d : Device). ShownAs i p w (shown_of entry) (own_at device.settings device.own (waits n))
      (room_of w.panel d)) (sym then)
      (shown_as_it_stands j.acquainted (panel_as_it_was j) j.place
      (record {
        legal = ap is_legal (sym then) ∙ passed_legal device n j.acquainted.device;
        settings = refl;
        stands = here;
        between = still.between;
      })
      j.rests still.fit)

  -- what another projector is sent or says
  elsewhere : (q : Panel) (k : ℕ) → is_panel q ≡ true → OnlyAt w.panel k q → (k ≡ i → ⊥)
      → ShownAs i p w (shown_of entry) device.own (room_of q device)
  elsewhere q k legal only other = grind (arith, shown_as_it_stands, still_served, joined_served, device_as_it_was)

  -- what others do with the device
  others_keep : (d : Device) → Aside p device d → ShownAs i p w (shown_of entry) d.own (room_of w.panel d)
  others_keep d aside = grind (arith, shown_as_it_stands, panel_as_it_was)

  pub shown_then : (h : RoomMove) → IsKeptUp i p w h
      → ShownAs i p w (showing (shown_of entry) (said_at device.settings device.own h))
      (own_at device.settings device.own h) (happened ours_panel i p w h)
  shown_then (asks k there back) within = command_shown i p w j k there back within
  shown_then (waits n) live = time_keeps n live
  shown_then (asks_another k c) other = grind (arith, elsewhere, commanded_stays_legal, command_touches_its_entry)
  shown_then (hears_another k l) other = grind (arith, elsewhere, stepped_stays_legal, step_touches_its_entry)
  shown_then (meanwhile d) aside = others_keep d aside

-- one after the other
module _ (i p : ℕ) where
  abbrev Through : Workroom → Settings → Own → Shown → List RoomMove → Workroom → Type 0
  Through w s o v hs x = ShownAs i p w (shown_through s o v hs) (own_through s o hs) x

  pub all_shown : (w : Workroom) (hs : List RoomMove) → IsJoined i p w → AllKeptUp i p ours_panel w hs
      → Through w w.device.settings w.device.own (shown_of (our_entry i w)) hs (all_happened ours_panel i p w hs)
  all_shown w [] j kept = as_it_was i p w j
  all_shown w (h ∷ hs) j kept =
      let one = shown_then i p w j h kept.0 in
      let x = happened ours_panel i p w h in
      let rest = all_shown x hs one.joined kept.1 in
      record {
        shows = rest.shows ∙ (λ n. shown_through (one.settings n) (one.does n) (one.shows n) hs);
        strays = rest.strays ∙ one.strays;
        settings = rest.settings ∙ one.settings;
        does = rest.does ∙ (λ n. own_through (one.settings n) (one.does n) hs);
        joined = rest.joined;
      }

  -- an open connection never closes of age
  abbrev phase : Workroom → ℕ
  phase w = (our_connection p w).phase

  connection_later : (w : Workroom) (n : ℕ) → phase w ≡ phase_open
      → connection_at (time_passed w.device n).leaves p ≡ our_connection p w
  connection_later w n stands = (passed_leaves w.device n).connection p (ap is_timed stands)

  open_kept_up : (w : Workroom) (h : RoomMove) → phase w ≡ phase_open → IsOther i p w h → IsKeptUp i p w h
  open_kept_up w h stands other = grind (arith, connection_later)

  still_open : (w : Workroom) (h : RoomMove) → IsJoined i p w → phase w ≡ phase_open → IsOther i p w h
      → phase (happened ours_panel i p w h) ≡ phase_open
  still_open w h j stands other = grind (arith, open_asked, connection_later)

  pub open_throughout : (w : Workroom) (hs : List RoomMove) → IsJoined i p w → phase w ≡ phase_open
      → AllOther i p ours_panel w hs → AllKeptUp i p ours_panel w hs
  open_throughout w [] j stands others = tt
  open_throughout w (h ∷ hs) j stands others =
      let kept = open_kept_up w h stands others.0 in
      let next = (shown_then i p w j h kept).joined in
      (kept, open_throughout (happened ours_panel i p w h) hs next (still_open w h j stands others.0) others.1)

  pub young_kept_up : (w : Workroom) (n : ℕ) → IsJoined i p w → phase w ≡ phase_awaiting
      → (our_connection p w).age + n < age_end
      → IsKeptUp i p w (waits n)
  young_kept_up w n j waited young = grind (arith, passed_accepted, place_passes, grows_older)
