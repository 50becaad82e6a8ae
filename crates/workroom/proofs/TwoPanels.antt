-- Two panels that do what is asked can't be told apart: what is asked of a call leaves it one result.
-- Assumes nothing.
use Rattle.std.proofs.Common.{ℕ, ◌≡◌, refl, sym, ap, ◌∙◌, Bool, true, false, List, ◌==◌, arith, leb-false}
use Rattle.std.proofs.Common.{eqb-true, ext_get_or}
use Rattle.std.proofs.lemmas.Bool.{eqb-false, not-false}
use Rattle.text.specs.Rows.{RefusalRow}
use Rattle.codes.specs.declared.command.Coded.{Coded}
use Rattle.panel.specs.AnyPanel.{AnyPanel, PanelAs, ours_panel}
use Rattle.pjlink.specs.Greetings.{read_greeting}
use Rattle.pjlink.specs.declared.command.Command.{Command}
use Rattle.panel.specs.Entries.{Talk, Shown, entry_of, blank_entry, ungreeted}
use Rattle.panel.specs.Stepping.{heard_line}
use Rattle.panel.specs.LegalPanels.{is_panel}
use Rattle.panel.specs.PanelCalls.{entry_at, adding_rows, commanding_rows, projector_rows}
use Rattle.panel.specs.StepTable.{is_greeting, IsUnderWay, IsStray, ungreeted_malformed, late, malformed, foreign}
use Rattle.panel.specs.StepTable.{not_allowed, StepTo, greets_open, greets_secured, strays, answers, refuses}
use Rattle.panel.specs.declared.types.PanelEntry.{PanelEntry}
use Rattle.panel.specs.declared.types.Panel.{Panel}
use Rattle.panel.specs.declared.refusal.PanelRefusal.{PanelRefusal}
use Rattle.panel.proofs.PanelsTold.{panel_told}
use Rattle.panel.proofs.Unused.{past_count_blank}
use Rattle.panel.proofs.StepsByTable.{steps_by_the_table}
use Rattle.workroom.specs.PanelDemand.{IsServed, PartsAre, after_line}
use Rattle.workroom.specs.PanelCallsDone.{OnlyThere, GrownBy, number_due, CallDone}
use Rattle.workroom.specs.TwoPanels.{DoesWhatIsAsked, PanelsAlike}
use Rattle.workroom.proofs.EntriesStep.{entry_legal_there}
use Rattle.workroom.proofs.PanelDemand.{our_panel_does}
use Rattle.workroom.proofs.PanelCallsDone.{our_calls_do}

pub ours_does : DoesWhatIsAsked ours_panel
ours_does = record { steps = our_panel_does; calls = our_calls_do }

-- ---- what a served call tells of its panel

added_legal : (p : Panel) (s : List ℕ) → number_due (adding_rows p s) ≡ 0 → is_panel p ≡ true
added_legal p s z = grind (arith, not-false)

commanded_legal : (p : Panel) (i : ℕ) (k : Coded) (room : ℕ) → number_due (commanding_rows p i k room) ≡ 0
    → is_panel p ≡ true
commanded_legal p i k room z = grind (arith, not-false)

served_then : (p : Panel) (i : ℕ) → number_due (projector_rows p i) ≡ 0 → IsServed p i
served_then p i z = grind (arith, not-false, leb-false)

-- ---- two panels that are p but for one entry

module _ (p q r : Panel) (legal : is_panel q ≡ true) (right : is_panel r ≡ true) where
  same_entries : (i : ℕ) {e : PanelEntry} → entry_at q i ≡ e → entry_at r i ≡ e
      → ((j : ℕ) → (j ≡ i → ⊥) → entry_at q j ≡ entry_at p j)
      → ((j : ℕ) → (j ≡ i → ⊥) → entry_at r j ≡ entry_at p j)
      → q.entries ≡ r.entries
  same_entries i here there others rest =
      ext_get_or blank_entry q.entries r.entries ((panel_told q legal).long ∙ sym (panel_told r right).long)
      (λ j inside. by j (j == i) refl)
    where
      by : (j : ℕ) (t : Bool) → (j == i) ≡ t → entry_at q j ≡ entry_at r j
      by j true e =
          let at = eqb-true j i e in
          ap (entry_at q) at ∙ here ∙ sym (ap (entry_at r) at ∙ there)
      by j false e = let other = eqb-false j i e in others j other ∙ sym (rest j other)

  same_but_there : {i : ℕ} {e : PanelEntry} → OnlyThere p i e q → OnlyThere p i e r → q ≡ r
  same_but_there {i} h g =
      let entries = same_entries i h.here g.here h.others g.others in
      (λ k. record { count = (h.count ∙ sym g.count) k; entries = entries k })

  same_grown : {e : PanelEntry} → GrownBy p e q → GrownBy p e r → q ≡ r
  same_grown h g =
      let entries = same_entries p.count h.here g.here h.others g.others in
      (λ k. record { count = (h.count ∙ sym g.count) k; entries = entries k })

  same_none : q.count ≡ 0 → r.count ≡ 0 → q ≡ r
  same_none none nothing =
      let long = (panel_told q legal).long ∙ sym (panel_told r right).long in
      let entries = ext_get_or blank_entry q.entries r.entries long
      (λ j inside. past_count_blank q legal j (omega arith) inside
      ∙ sym (past_count_blank r right j (omega arith) (omega arith))) in
      (λ k. record { count = (none ∙ sym nothing) k; entries = entries k })

-- ---- two results of one call

module _ {p : Panel} {rows : List (RefusalRow PanelRefusal)} {line : List ℕ} {Left : Panel → Type 0} (r s : PanelAs)
    (h : CallDone p rows line Left r) (g : CallDone p rows line Left s) where
  same_result : r.line ≡ s.line → r.panel ≡ s.panel → r ≡ s
  same_result l q = (λ k. record { number = (h.number ∙ sym g.number) k; line = l k; panel = q k })

  same_call : (number_due rows ≡ 0 → r.panel ≡ s.panel) → r ≡ s
  same_call panels = by (number_due rows == 0) refl
    where
      by : (t : Bool) → (number_due rows == 0) ≡ t → r ≡ s
      by true e = let z = eqb-true (number_due rows) 0 e in same_result (h.sends z ∙ sym (g.sends z)) (panels z)
      by false e =
          let some = eqb-false (number_due rows) 0 e in
          same_result ((h.refused some).1 ∙ sym (g.refused some).1) ((h.refused some).0 ∙ sym (g.refused some).0)

-- ---- the step on a line: each row of its table is one that is asked

module _ (P : AnyPanel) (does : DoesWhatIsAsked P) (p : Panel) (i : ℕ) (l : List ℕ) (served : IsServed p i) where
  -- an entry by its parts
  entry_is : {f e : PanelEntry} {t : Talk} {s : Shown} {n : ℕ} → PartsAre f e t s n → f ≡ entry_of e.password t s n
  entry_is h = (λ k. entry_of (h.same_password k) (h.talks k) (h.shows k) (h.counts k))

  row_taken : {f : PanelEntry} → StepTo (entry_at p i) l f → after_line P p i l ≡ f
  row_taken (greets_open u r) = entry_is (does.steps.open_greets p i l served u r)
  row_taken (greets_secured random u r) = entry_is (does.steps.secured_greets p i l random served u r)
  row_taken (strays s) = entry_is (does.steps.strays_counted p i l served s)
  row_taken (answers c m u r) = entry_is (does.steps.replies_shown p i l c m served u r)
  row_taken (refuses c u r) = ap (after_line P p i) r ∙ entry_is (does.steps.erra_forgets p i c served u)

  stepped_there : OnlyThere p i (heard_line (entry_at p i) l) (P.hear p i l).panel
  stepped_there = record {
    count = does.steps.none_comes_or_goes p i l;
    here = row_taken (steps_by_the_table (entry_at p i) l (entry_legal_there p i served));
    others = does.steps.others_stay p i l;
  }

-- ---- what is told of a line: each row of the table is told as one thing

module _ (P Q : AnyPanel) (does : DoesWhatIsAsked P) (does_too : DoesWhatIsAsked Q) (p : Panel) (i : ℕ) (l : List ℕ)
  where
    replies_alike : (c : Command) → IsServed p i → IsUnderWay (entry_at p i) c → P.tell p i l ≡ Q.tell p i l
    replies_alike c served u =
        does.steps.replies_told p i l c served u ∙ sym (does_too.steps.replies_told p i l c served u)

    greetings_alike : IsServed p i → (entry_at p i).greeting ≡ ungreeted → is_greeting (read_greeting l) ≡ true
        → P.tell p i l ≡ Q.tell p i l
    greetings_alike served u g =
        does.steps.greetings_told p i l served u g ∙ sym (does_too.steps.greetings_told p i l served u g)

    stray_alike : IsServed p i → IsStray (entry_at p i) l → P.tell p i l ≡ Q.tell p i l
    stray_alike served (ungreeted_malformed u g) =
        does.steps.no_greetings_told p i l served u g ∙ sym (does_too.steps.no_greetings_told p i l served u g)
    stray_alike served (late g w) =
        does.steps.late_told p i l served g w ∙ sym (does_too.steps.late_told p i l served g w)
    stray_alike served (malformed c u n) = replies_alike c served u
    stray_alike served (foreign c u n) = replies_alike c served u
    stray_alike served (not_allowed c u n) = replies_alike c served u

    row_alike : IsServed p i → {f : PanelEntry} → StepTo (entry_at p i) l f → P.tell p i l ≡ Q.tell p i l
    row_alike served (greets_open u r) = greetings_alike served u (ap is_greeting r)
    row_alike served (greets_secured random u r) = greetings_alike served u (ap is_greeting r)
    row_alike served (strays s) = stray_alike served s
    row_alike served (answers c m u r) = replies_alike c served u
    row_alike served (refuses c u r) = replies_alike c served u

    told_alike : P.tell p i l ≡ Q.tell p i l
    told_alike = by (number_due (projector_rows p i) == 0) refl
      where
        by : (t : Bool) → (number_due (projector_rows p i) == 0) ≡ t → P.tell p i l ≡ Q.tell p i l
        by true e =
            let served = served_then p i (eqb-true (number_due (projector_rows p i)) 0 e) in
            row_alike served (steps_by_the_table (entry_at p i) l (entry_legal_there p i served))
        by false e =
            let some = eqb-false (number_due (projector_rows p i)) 0 e in
            does.calls.tells_nothing p i l some ∙ sym (does_too.calls.tells_nothing p i l some)

pub panels_alike : (P Q : AnyPanel) → DoesWhatIsAsked P → DoesWhatIsAsked Q → PanelsAlike P Q
panels_alike P Q does does_too = record {
  none =
      let h = does.calls.begins in
      let g = does_too.calls.begins in
      let panels = same_none P.none.panel P.none.panel Q.none.panel h.legal g.legal h.count g.count in
      (λ k. record { number = (h.number ∙ sym g.number) k; line = (h.sends ∙ sym g.sends) k; panel = panels k });
  add = λ p s.
      let h = does.calls.adds p s in
      let g = does_too.calls.adds p s in
      same_call (P.add p s) (Q.add p s) h g
      (λ z. let legal = added_legal p s z in
      same_grown p (P.add p s).panel (Q.add p s).panel (h.stays_legal legal) (g.stays_legal legal) (h.leaves z)
      (g.leaves z));
  command = λ p i k room.
      let h = does.calls.commands p i k room in
      let g = does_too.calls.commands p i k room in
      same_call (P.command p i k room) (Q.command p i k room) h g
      (λ z. let legal = commanded_legal p i k room z in
      same_but_there p (P.command p i k room).panel (Q.command p i k room).panel (h.stays_legal legal)
      (g.stays_legal legal) (h.leaves z) (g.leaves z));
  hear = λ p i l.
      let h = does.calls.hears p i l in
      let g = does_too.calls.hears p i l in
      same_call (P.hear p i l) (Q.hear p i l) h g
      (λ z. let served = served_then p i z in
      same_but_there p (P.hear p i l).panel (Q.hear p i l).panel (h.stays_legal served.legal)
      (g.stays_legal served.legal) (stepped_there P does p i l served) (stepped_there Q does_too p i l served));
  tell = λ p i l. told_alike P Q does does_too p i l;
  lose = λ p i.
      let h = does.calls.loses p i in
      let g = does_too.calls.loses p i in
      same_call (P.lose p i) (Q.lose p i) h g
      (λ z. let legal = (served_then p i z).legal in
      same_but_there p (P.lose p i).panel (Q.lose p i).panel (h.stays_legal legal) (g.stays_legal legal) (h.leaves z)
      (g.leaves z));
}
