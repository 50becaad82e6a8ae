-- A legal panel stays legal, whatever call is made and whatever line comes.
-- Assumes nothing.
use Rattle.std.specs.List.{list_all}
use Rattle.std.proofs.Common.{ℕ, suc, ◌<◌, ◌≤◌, ◌≡◌, refl, sym, ap, subst, ◌∙◌, true, false, List, [], arith}
use Rattle.std.proofs.Common.{add-one, length, slice_index_or, drop, length-set, drop-cons, drop-set-lt}
use Rattle.std.proofs.lemmas.List.{length-replicate}
use Rattle.text.specs.Outcomes.{CallResult}
use Rattle.text.proofs.Choices.{both_right}
use Rattle.text.proofs.Scanning.{list_all-set, list_all-replicate}
use Rattle.words.specs.Texts.{is_password}
use Rattle.words.proofs.TextsTold.{password_long}
use Rattle.words.proofs.WithinLength.{password_within}
use Rattle.std.specs.Prelude.{is_some, ◌==◌}
use Rattle.text.proofs.RoomsTold.{uses_told, kept_used}
use Rattle.panel.specs.Passwords.{password_room, password_of, is_password_kept}
use Rattle.controller.specs.Reading.{ReadAs, read_reply, means_it}
use Rattle.controller.proofs.ReadsSound.{reads_sound}
use Rattle.codes.specs.Commands.{coded_command}
use Rattle.codes.specs.declared.command.Coded.{Coded}
use Rattle.panel.specs.Entries.{Talk, Shown, talk_of, shown_of, entry_of, ungreeted, fresh_entry, blank_entry}
use Rattle.panel.specs.Showing.{showing}
use Rattle.panel.specs.Stepping.{strays_most, lost_entry, sent_entry, heard_line, is_unready}
use Rattle.panel.specs.LegalPanels.{panel_most, is_talk, is_shown, is_entry, is_unused, is_panel}
use Rattle.panel.specs.PanelCalls.{no_panel, entry_at, with_entry, grown_by, added_to, command_at, stepped_at}
use Rattle.panel.specs.PanelCalls.{lost_at}
use Rattle.panel.specs.StepTable.{StepTo, greets_open, greets_secured, strays, answers, refuses}
use Rattle.panel.specs.declared.talk.Greeted.TheVariants.{NotYet, Open, Secured}
use Rattle.panel.specs.declared.types.PanelEntry.{PanelEntry}
use Rattle.panel.specs.declared.types.Panel.{Panel}
use Rattle.panel.specs.declared.refusal.PanelRefusal.{PanelRefusal}
use Rattle.panel.proofs.PanelsTold.{EntryTold, entry_told, entry_legal, PanelTold, panel_told, panel_legal}
use Rattle.panel.proofs.PanelsTold.{entry_at_legal}
use Rattle.panel.proofs.TalksTold.{is_talk-rested_on, is_talk-sent_on, begun_legal}
use Rattle.panel.proofs.ShownLegal.{said_shown, nothing_shown_legal}
use Rattle.panel.proofs.StepsByTable.{steps_by_the_table}
use Rattle.panel.proofs.Cases.{added_by, stepped_by, lost_by}

-- an entry that keeps its password
module _ (e : PanelEntry) (legal : is_entry e ≡ true) where
  abbrev told : EntryTold e
  told = entry_told e legal

  is_entry-entry_of : (t : Talk) (s : Shown) (n : ℕ) → is_talk t ≡ true → is_shown s ≡ true → n ≤ strays_most
      → is_entry (entry_of e.password t s n) ≡ true
  is_entry-entry_of t s n h k few =
      entry_legal _ (record { password = told.password; talk = h; shown = k; strays = few })

  row_legal : (l : List ℕ) {f : PanelEntry} → StepTo e l f → is_entry f ≡ true
  row_legal l (greets_open g r) = is_entry-entry_of _ _ _ (begun_legal Open) told.shown told.strays
  row_legal l (greets_secured random g r) =
      is_entry-entry_of _ _ _ (begun_legal (Secured random)) told.shown told.strays
  row_legal l (strays s) = is_entry-entry_of _ _ _ told.talk told.shown (omega arith)
  row_legal l (answers c m u r) =
      let means : (read_reply c l).outcome ≡ means_it = ap (λ (a : ReadAs). a.outcome) r in
      is_entry-entry_of _ _ _ (is_talk-rested_on (talk_of e) told.talk)
      (subst (λ (a : ReadAs). is_shown (showing (shown_of e) a.said) ≡ true) r
      (said_shown (shown_of e) (reads_sound c l means) told.shown)) told.strays
  row_legal l (refuses c u r) = is_entry-entry_of _ _ _ (begun_legal NotYet) nothing_shown_legal told.strays

  is_entry-heard_line : (l : List ℕ) → is_entry (heard_line e l) ≡ true
  is_entry-heard_line l = row_legal l (steps_by_the_table e l legal)

  is_entry-lost_entry : is_entry (lost_entry e) ≡ true
  is_entry-lost_entry = is_entry-entry_of _ _ _ (begun_legal NotYet) told.shown told.strays

  is_entry-sent_entry : (k : Coded) → is_unready e ≡ false → is_some (coded_command k) ≡ true
      → is_entry (sent_entry e k) ≡ true
  is_entry-sent_entry k ready named =
      let greeted : (e.greeting == ungreeted) ≡ false = grind (arith, ready) in
      is_entry-entry_of _ _ _ (is_talk-sent_on (talk_of e) told.talk k greeted named) told.shown told.strays

kept_legal : (s : List ℕ) → is_password s ≡ true → is_password_kept (password_of s) ≡ true
kept_legal s h =
    let short = password_long s h in
    (uses_told _ _ _ _ _).1 (kept_used (λ x. x == 0) 0 password_room is_password s (omega arith) refl h)

is_entry-fresh_entry : (s : List ℕ) → is_password s ≡ true → is_entry (fresh_entry s) ≡ true
is_entry-fresh_entry s h =
    entry_legal _ (record {
      password = kept_legal s h;
      talk = begun_legal NotYet;
      shown = nothing_shown_legal;
      strays = omega arith;
    })

-- the panel of no projector
pub none_legal : is_panel no_panel ≡ true
unfolding is_unused
none_legal =
    panel_legal _ (record {
      count = omega arith;
      long = length-replicate panel_most blank_entry;
      entries = list_all-replicate is_entry panel_most blank_entry
          (is_entry-fresh_entry [] (password_within [] (omega arith)));
      unused = list_all-replicate is_unused panel_most blank_entry refl;
    })

module _ (p : Panel) (legal : is_panel p ≡ true) where
  abbrev known : PanelTold p
  known = panel_told p legal

  -- one entry replaced
  placed : (i : ℕ) (e : PanelEntry) → i < p.count → is_entry e ≡ true → is_panel (with_entry p i e) ≡ true
  placed i e there h =
      panel_legal _ (record {
        count = known.count;
        long = length-set p.entries i e ∙ known.long;
        entries = list_all-set is_entry p.entries i e known.entries h;
        unused = ap (list_all is_unused) (drop-set-lt p.count p.entries i e there) ∙ known.unused;
      })

  -- one entry more
  grown : (e : PanelEntry) → p.count < panel_most → is_entry e ≡ true → is_panel (grown_by p e) ≡ true
  grown e free h =
      let n = p.count in
      let size = known.long in
      let inside : n < length p.entries = omega arith in
      let later = drop (suc n) p.entries in
      panel_legal _ (record {
        count = omega arith;
        long = length-set p.entries n e ∙ known.long;
        entries = list_all-set is_entry p.entries n e known.entries h;
        unused = rw (add-one n, drop-set-lt (suc n) p.entries n e (omega arith))
            (both_right (is_unused (slice_index_or p.entries n blank_entry)) (list_all is_unused later)
            (ap (list_all is_unused) (sym (drop-cons p.entries n blank_entry inside)) ∙ known.unused));
      })

  abbrev StaysLegal : {A : Type 0} → CallResult PanelRefusal A Panel → Type 0
  StaysLegal r = is_panel r.leaves ≡ true

  pub added_stays_legal : (s : List ℕ) → StaysLegal (added_to p s)
  added_stays_legal s =
      added_by p s StaysLegal (λ n z. legal) (λ h word free. grown (fresh_entry s) free (is_entry-fresh_entry s word))

  module _ (i : ℕ) where
    pub commanded_stays_legal : (k : Coded) (room : ℕ) → StaysLegal (command_at p i k room)
    unfolding command_at
    commanded_stays_legal k room = grind (arith, placed, is_entry-sent_entry, entry_at_legal)

    pub stepped_stays_legal : (l : List ℕ) → StaysLegal (stepped_at p i l)
    stepped_stays_legal l =
        stepped_by p i l StaysLegal (λ n z. legal)
        (λ h there. placed i _ there (is_entry-heard_line (entry_at p i) (entry_at_legal p legal i there) l))

    pub lost_stays_legal : StaysLegal (lost_at p i)
    lost_stays_legal =
        lost_by p i StaysLegal (λ n z. legal)
        (λ h there. placed i _ there (is_entry-lost_entry (entry_at p i) (entry_at_legal p legal i there)))
