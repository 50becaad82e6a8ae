-- What goes by rows of refusals: a refusal leaves the panel that was given and writes nothing; its number is not 0, and
-- is that of the first row that applies.
-- Assumes nothing.
use Rattle.std.proofs.Common.{ℕ, ◌≡◌, refl, List, []}
use Rattle.text.specs.Rows.{RefusalRow, first_of, numbers_of, by_rows}
use Rattle.text.specs.Outcomes.{CallResult, refused_as, call_number}
use Rattle.text.proofs.ByRows.{by_rows_cases, call_rows_number}
use Rattle.codes.specs.declared.command.Coded.{Coded}
use Rattle.panel.specs.PanelCalls.{adding_rows, commanding_rows, projector_rows, added_to}
use Rattle.panel.specs.PanelCalls.{command_at, stepped_at, lost_at}
use Rattle.panel.specs.Refusals.{panel_refusal_number}
use Rattle.panel.specs.declared.types.Panel.{Panel}
use Rattle.panel.specs.declared.refusal.PanelRefusal.{PanelRefusal}

module _ {A : Type 0} (p : Panel) (rows : List (RefusalRow PanelRefusal)) (done : CallResult PanelRefusal A Panel)
    (served : call_number panel_refusal_number done ≡ 0) where
  abbrev what : CallResult PanelRefusal A Panel
  what = by_rows rows (refused_as p) done

  pub refused_keeps : (call_number panel_refusal_number what ≡ 0 → ⊥) → (what.leaves ≡ p) × (what.bytes ≡ [])
  refused_keeps =
      by_rows_cases (refused_as p) done
      (λ r. (call_number panel_refusal_number r ≡ 0 → ⊥) → (r.leaves ≡ p) × (r.bytes ≡ [])) (λ e some. (refl, refl))
      rows (λ none some. absurd (some served))

  number_by_rows : call_number panel_refusal_number what ≡ first_of (numbers_of panel_refusal_number rows)
  number_by_rows = call_rows_number panel_refusal_number p done served rows

module _ (p : Panel) where
  pub adding_number : (s : List ℕ) → call_number panel_refusal_number (added_to p s)
      ≡ first_of (numbers_of panel_refusal_number (adding_rows p s))
  unfolding added_to
  adding_number s = number_by_rows p (adding_rows p s) _ refl

  module _ (i : ℕ) where
    pub commanding_number : (k : Coded) (room : ℕ) → call_number panel_refusal_number (command_at p i k room)
        ≡ first_of (numbers_of panel_refusal_number (commanding_rows p i k room))
    unfolding command_at
    commanding_number k room = number_by_rows p (commanding_rows p i k room) _ refl

    pub hearing_number : (l : List ℕ) → call_number panel_refusal_number (stepped_at p i l)
        ≡ first_of (numbers_of panel_refusal_number (projector_rows p i))
    unfolding stepped_at
    hearing_number l = number_by_rows p (projector_rows p i) _ refl

    pub losing_number : call_number panel_refusal_number (lost_at p i)
        ≡ first_of (numbers_of panel_refusal_number (projector_rows p i))
    unfolding lost_at
    losing_number = number_by_rows p (projector_rows p i) _ refl
