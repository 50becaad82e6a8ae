-- The panel's calls, case by case: what holds of a refusal and of what is done holds of the call, and the equation of
-- what is done.
-- Assumes nothing.
use Rattle.std.proofs.Common.{ℕ, ◌≤◌, ◌<◌, ◌≡◌, true, false, List, arith, leb-false, is_some, Some, None}
use Rattle.std.proofs.Common.{ap, sym, ◌∙◌, length, slice_index_or, [], Ok, ltb-false}
use Rattle.std.specs.Result.{result_ok}
use Rattle.std.proofs.lemmas.Bool.{not-false}
use Rattle.std.proofs.lemmas.List.{get_or_default}
use Rattle.text.specs.Rows.{by_rows, first_of, numbers_of}
use Rattle.text.specs.Outcomes.{CallResult, served_as, refused_as}
use Rattle.text.proofs.ByRows.{by_rows_cases}
use Rattle.words.specs.Texts.{is_password}
use Rattle.controller.specs.Writing.{command_room}
use Rattle.codes.specs.Commands.{coded_command}
use Rattle.codes.specs.declared.command.Coded.{Coded}
use Rattle.panel.specs.Entries.{fresh_entry, blank_entry}
use Rattle.panel.specs.Stepping.{is_unready}
use Rattle.panel.specs.Hearing.{HeardAs, line_heard}
use Rattle.panel.specs.LegalPanels.{panel_most, is_panel}
use Rattle.panel.specs.PanelCalls.{entry_at, grown_by, adding_rows, commanding_rows, projector_rows, added_to}
use Rattle.panel.specs.PanelCalls.{sent_at, command_at, heard_at, stepped_at, told_at, lost_as, lost_at}
use Rattle.panel.specs.Refusals.{panel_refusal_number}
use Rattle.panel.specs.declared.types.PanelEntry.{PanelEntry}
use Rattle.panel.specs.declared.types.Panel.{Panel}
use Rattle.panel.specs.declared.refusal.PanelRefusal.{PanelRefusal}
use Rattle.panel.proofs.PanelsTold.{panel_told}

-- a refusal keeps the panel; its number is not 0
abbrev pub Refusals : {A : Type 0} → Panel → (CallResult PanelRefusal A Panel → Type 0) → Type 0
Refusals p P = (e : PanelRefusal) → (panel_refusal_number e ≡ 0 → ⊥) → P (refused_as p e)

number_some : (e : PanelRefusal) → panel_refusal_number e ≡ 0 → ⊥
number_some e = grind arith

module _ (p : Panel) (s : List ℕ) where
  abbrev grown : CallResult PanelRefusal (Unit {0}) Panel
  grown = served_as tt [] (grown_by p (fresh_entry s))

  pub added_by : (P : CallResult PanelRefusal (Unit {0}) Panel → Type 0) → Refusals p P
      → (is_panel p ≡ true → is_password s ≡ true → p.count < panel_most → P grown) → P (added_to p s)
  unfolding added_to
  added_by P refused done =
      by_rows_cases (refused_as p) grown P (λ e. refused e (number_some e)) (adding_rows p s)
      (λ none.
      done (not-false (is_panel p) none.0) (not-false (is_password s) none.1.0) (leb-false _ _ none.1.1.0))

  pub added_done : is_panel p ≡ true → is_password s ≡ true → p.count < panel_most
      → added_to p s ≡ served_as tt [] (grown_by p (fresh_entry s))
  unfolding added_to
  added_done legal word free = grind arith

module _ (p : Panel) (i : ℕ) (k : Coded) (room : ℕ) where
  pub record Commands : Type 0 where
    pub legal : is_panel p ≡ true
    pub enough : command_room ≤ room
    pub there : i < p.count
    pub named : is_some (coded_command k) ≡ true
    pub ready : is_unready (entry_at p i) ≡ false

  pub commanded_by : (P : CallResult PanelRefusal (Unit {0}) Panel → Type 0) → Refusals p P
      → (Commands → P (sent_at p i k room))
      → P (command_at p i k room)
  unfolding command_at
  commanded_by P refused done =
      by_rows_cases (refused_as p) (sent_at p i k room) P (λ e. refused e (number_some e))
      (commanding_rows p i k room)
      (λ none.
      done (record {
        legal = not-false (is_panel p) none.0;
        enough = ltb-false room command_room none.1.0;
        there = leb-false p.count i none.1.1.0;
        named = not-false (is_some (coded_command k)) none.1.1.1.0;
        ready = none.1.1.1.1.0;
      }))

  pub commanded_done : Commands → command_at p i k room ≡ sent_at p i k room
  unfolding command_at
  commanded_done c = grind (arith, c.legal, c.enough, c.there, c.named, c.ready)

-- the two calls that only name a projector
module _ (p : Panel) (i : ℕ) where
  projector_by : {A : Type 0} (done : CallResult PanelRefusal A Panel) (P : CallResult PanelRefusal A Panel → Type 0)
      → Refusals p P → (is_panel p ≡ true → i < p.count → P done)
      → P (by_rows (projector_rows p i) (refused_as p) done)
  projector_by done P refused does =
      by_rows_cases (refused_as p) done P (λ e. refused e (number_some e)) (projector_rows p i)
      (λ none. does (not-false (is_panel p) none.0) (leb-false p.count i none.1.0))

  module _ (l : List ℕ) where
    pub stepped_by : (P : CallResult PanelRefusal HeardAs Panel → Type 0) → Refusals p P
        → (is_panel p ≡ true → i < p.count → P (heard_at p i l)) → P (stepped_at p i l)
    unfolding stepped_at
    stepped_by = projector_by _

    pub stepped_done : is_panel p ≡ true → i < p.count → stepped_at p i l ≡ heard_at p i l
    unfolding stepped_at
    stepped_done legal there = grind arith

    pub told_done : is_panel p ≡ true → i < p.count → told_at p i l ≡ Some (line_heard (entry_at p i) l)
    told_done legal there =
        ap (λ (r : CallResult PanelRefusal HeardAs Panel). result_ok r.says) (stepped_done legal there)

    -- of an entry that is read with any other in its place past the end
    pub heard_as_told : is_panel p ≡ true → i < p.count → (d : PanelEntry) (h : HeardAs)
        → h ≡ line_heard (slice_index_or p.entries i d) l → Ok h ≡ (stepped_at p i l).says
    heard_as_told legal there d h heard =
        let told = panel_told p legal in
        let inside : i < length p.entries = omega (arith, there, told.count, told.long) in
        let here = get_or_default p.entries i d blank_entry inside in
        ap Ok (heard ∙ ap (λ e. line_heard e l) here)
        ∙ sym (ap (λ (r : CallResult PanelRefusal HeardAs Panel). r.says) (stepped_done legal there))

    -- and of a refused call nothing is told
    pub told_refused : (first_of (numbers_of panel_refusal_number (projector_rows p i)) ≡ 0 → ⊥) → told_at p i l ≡ None
    unfolding stepped_at
    told_refused refused = grind arith

  pub lost_by : (P : CallResult PanelRefusal (Unit {0}) Panel → Type 0) → Refusals p P
      → (is_panel p ≡ true → i < p.count → P (lost_as p i)) → P (lost_at p i)
  unfolding lost_at
  lost_by = projector_by _

  pub lost_done : is_panel p ≡ true → i < p.count → lost_at p i ≡ lost_as p i
  unfolding lost_at
  lost_done legal there = grind arith
