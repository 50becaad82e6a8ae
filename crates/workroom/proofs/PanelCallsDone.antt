-- Our panel's four calls do what is asked of a panel's: case by case, refused or done.
-- Assumes nothing.
use Rattle.std.proofs.Common.{arith, ℕ, ◌<◌, ◌≡◌, refl, sym, ap, ◌∙◌, true, List, [], get_or-set_same}
use Rattle.std.proofs.Common.{get_or-set_other, Option, Some, None, is_some}
use Rattle.std.proofs.lemmas.Bool.{false≢true}
use Rattle.text.specs.Rows.{RefusalRow}
use Rattle.pjlink.specs.declared.command.Command.{Command}
use Rattle.codes.specs.Commands.{coded_command}
use Rattle.codes.specs.declared.command.Coded.{Coded}
use Rattle.codes.proofs.CodesBack.{command_writable}
use Rattle.panel.specs.AnyPanel.{PanelAs, panel_in, ours_panel}
use Rattle.panel.specs.Entries.{fresh_entry, blank_entry}
use Rattle.panel.specs.Hearing.{HeardAs}
use Rattle.panel.specs.Stepping.{lost_entry, sent_entry, line_sent}
use Rattle.panel.specs.LegalPanels.{panel_most, is_panel}
use Rattle.panel.specs.PanelCalls.{entry_at, with_entry, grown_by, adding_rows, commanding_rows}
use Rattle.panel.specs.PanelCalls.{projector_rows, added_to, command_at, stepped_at, lost_at}
use Rattle.panel.specs.declared.types.PanelEntry.{PanelEntry}
use Rattle.panel.specs.declared.types.Panel.{Panel}
use Rattle.panel.specs.declared.refusal.PanelRefusal.{PanelRefusal}
use Rattle.panel.proofs.Cases.{Refusals, Commands, added_by, commanded_by, stepped_by, told_refused, lost_by}
use Rattle.panel.proofs.LinesSent.{line_sent_whole}
use Rattle.panel.proofs.PanelsLegal.{none_legal, added_stays_legal, commanded_stays_legal, stepped_stays_legal}
use Rattle.panel.proofs.PanelsLegal.{lost_stays_legal}
use Rattle.panel.proofs.PanelsTold.{panel_told, entry_at_legal}
use Rattle.panel.proofs.Refusals.{adding_number, commanding_number, hearing_number, losing_number}
use Rattle.workroom.specs.PanelCallsDone.{OnlyThere, GrownBy, line_due, number_due, CallDone, PanelCallsDone}

module _ (p : Panel) (legal : is_panel p ≡ true) where
  only_there : (i : ℕ) → i < p.count → (e : PanelEntry) → OnlyThere p i e (with_entry p i e)
  only_there i there e =
      let told = panel_told p legal in
      record {
        count = refl;
        here = get_or-set_same p.entries i e blank_entry (omega (arith, told.long, told.count));
        others = λ j other. get_or-set_other p.entries i j e blank_entry other;
      }

  grown : p.count < panel_most → (e : PanelEntry) → GrownBy p e (grown_by p e)
  grown free e =
      let told = panel_told p legal in
      record {
        count = refl;
        here = get_or-set_same p.entries p.count e blank_entry (omega (arith, told.long));
        others = λ j other. get_or-set_other p.entries p.count j e blank_entry other;
      }

-- what a call does by its cases: a refusal, or what is done, of which the line and the panel are told
module _ (p : Panel) (line : List ℕ) (Left : Panel → Type 0) where
  pub record ByCases (r : PanelAs) : Type 0 where
    pub kept : (r.number ≡ 0 → ⊥) → (r.panel ≡ p) × (r.line ≡ [])
    pub line_sent_then : r.number ≡ 0 → r.line ≡ line
    pub left_then : r.number ≡ 0 → Left r.panel

  refusals : (A : Type 0) → Refusals {A = A} p (λ c. ByCases (panel_in c))
  refusals A e some = record {
    kept = λ other. (refl, refl);
    line_sent_then = λ z. absurd (some z);
    left_then = λ z. absurd (some z);
  }

  done : {r : PanelAs} → r.number ≡ 0 → r.line ≡ line → Left r.panel → ByCases r
  done z sent left = record { kept = λ some. absurd (some z); line_sent_then = λ y. sent; left_then = λ y. left }

  call_done : (rows : List (RefusalRow PanelRefusal)) (r : PanelAs) → r.number ≡ number_due rows → ByCases r
      → (is_panel p ≡ true → is_panel r.panel ≡ true) → CallDone p rows line Left r
  call_done rows r number cases legal = record {
    number = number;
    refused = λ some. cases.kept (λ z. some (sym number ∙ z));
    sends = λ z. cases.line_sent_then (number ∙ z);
    leaves = λ z. cases.left_then (number ∙ z);
    stays_legal = legal;
  }

module _ (p : Panel) where
  adds : (s : List ℕ) → CallDone p (adding_rows p s) [] (GrownBy p (fresh_entry s)) (panel_in (added_to p s))
  adds s =
      let Left = GrownBy p (fresh_entry s) in
      call_done p [] Left (adding_rows p s) (panel_in (added_to p s)) (adding_number p s)
      (added_by p s (λ c. ByCases p [] Left (panel_in c)) (refusals p [] Left (Unit {0}))
      (λ legal word free. done p [] Left refl refl (grown p legal free (fresh_entry s))))
      (λ legal. added_stays_legal p legal s)

  module _ (i : ℕ) where
    -- a command that is accepted is one, so its line is whole
    due : (k : Coded) (room : ℕ) (m : Option Command) → coded_command k ≡ m → Commands p i k room
        → line_sent (entry_at p i) m room ≡ line_due (entry_at p i) m
    due k room (Some c) named can =
        line_sent_whole (entry_at p i) c room (entry_at_legal p can.legal i can.there) (command_writable k c named)
        can.enough
    due k room None named can = absurd (false≢true (sym (ap is_some named) ∙ can.named))

    commands : (k : Coded) (room : ℕ)
        → CallDone p (commanding_rows p i k room) (line_due (entry_at p i) (coded_command k))
        (OnlyThere p i (sent_entry (entry_at p i) k)) (panel_in (command_at p i k room))
    commands k room =
        let line = line_due (entry_at p i) (coded_command k) in
        let Left = OnlyThere p i (sent_entry (entry_at p i) k) in
        call_done p line Left (commanding_rows p i k room) (panel_in (command_at p i k room))
        (commanding_number p i k room)
        (commanded_by p i k room (λ c. ByCases p line Left (panel_in c)) (refusals p line Left (Unit {0}))
        (λ can. done p line Left refl (due k room (coded_command k) refl can)
        (only_there p can.legal i can.there (sent_entry (entry_at p i) k))))
        (λ legal. commanded_stays_legal p legal i k room)

    hears : (l : List ℕ) → CallDone p (projector_rows p i) [] (λ q. Unit {0}) (panel_in (stepped_at p i l))
    hears l =
        call_done p [] (λ q. Unit {0}) (projector_rows p i) (panel_in (stepped_at p i l)) (hearing_number p i l)
        (stepped_by p i l (λ c. ByCases p [] (λ q. Unit {0}) (panel_in c)) (refusals p [] (λ q. Unit {0}) HeardAs)
        (λ legal there. done p [] (λ q. Unit {0}) refl refl tt))
        (λ legal. stepped_stays_legal p legal i l)

    loses : CallDone p (projector_rows p i) [] (OnlyThere p i (lost_entry (entry_at p i)))
        (panel_in (lost_at p i))
    loses =
        let Left = OnlyThere p i (lost_entry (entry_at p i)) in
        call_done p [] Left (projector_rows p i) (panel_in (lost_at p i)) (losing_number p i)
        (lost_by p i (λ c. ByCases p [] Left (panel_in c)) (refusals p [] Left (Unit {0}))
        (λ legal there. done p [] Left refl refl (only_there p legal i there (lost_entry (entry_at p i)))))
        (λ legal. lost_stays_legal p legal i)

pub our_calls_do : PanelCallsDone ours_panel
our_calls_do = record {
  begins = record { number = refl; sends = refl; count = refl; legal = none_legal };
  adds = adds;
  commands = commands;
  hears = hears;
  tells_nothing = told_refused;
  loses = loses;
}
