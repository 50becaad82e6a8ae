-- Our panel does what RULES, Panel asks of one: by the table of what each kind of line does (`StepTo` of panel), which
-- a legal entry steps by.
-- Assumes nothing.
use Rattle.std.proofs.Common.{arith, ℕ, ◌≡◌, refl, sym, ap, ◌∙◌, subst, List, Some}
use Rattle.panel.specs.AnyPanel.{ours_panel}
use Rattle.panel.specs.Entries.{talk_of, shown_of}
use Rattle.panel.specs.StepTable.{StepTo, greets_open, greets_secured, strays, answers, refuses}
use Rattle.panel.specs.PanelCalls.{entry_at, stepped_at, told_at}
use Rattle.panel.specs.Hearing.{line_heard}
use Rattle.panel.specs.declared.types.PanelEntry.{PanelEntry}
use Rattle.panel.specs.declared.types.Panel.{Panel}
use Rattle.panel.proofs.Cases.{told_done}
use Rattle.panel.proofs.LinesHeard.{greeting_told, no_greeting_told, late_told, reply_told}
use Rattle.panel.proofs.OnlyItsEntry.{step_touches_its_entry}
use Rattle.panel.proofs.StepsByTable.{row_steps, steps_by_the_table}
use Rattle.workroom.specs.PanelDemand.{IsServed, PartsAre, ShownBy, stays_shown, by_reply, by_erra, PanelDemand}
use Rattle.workroom.proofs.EntriesStep.{entry_legal_there, entry_at-stepped_at}

module _ (p : Panel) (i : ℕ) (l : List ℕ) (served : IsServed p i) where
  abbrev before : PanelEntry
  before = entry_at p i

  -- a row that keeps the password
  by_row : {f : PanelEntry} → StepTo before l f → f.password ≡ before.password
      → PartsAre (entry_at (stepped_at p i l).leaves i) before (talk_of f) (shown_of f) f.strays
  by_row row same = grind (arith, entry_at-stepped_at, row_steps)

  row_shown : {f : PanelEntry} → StepTo before l f → ShownBy before l f
  row_shown (greets_open g r) = stays_shown refl
  row_shown (greets_secured random g r) = stays_shown refl
  row_shown (strays s) = stays_shown refl
  row_shown (answers c m u r) = by_reply c m u r refl
  row_shown (refuses c u r) = by_erra c u r refl

  any_shown : ShownBy before l (entry_at (stepped_at p i l).leaves i)
  any_shown =
      subst (ShownBy before l) (sym (entry_at-stepped_at p i served l))
      (row_shown (steps_by_the_table before l (entry_legal_there p i served)))

  told : told_at p i l ≡ Some (line_heard before l)
  told = told_done p i l served.legal served.there

pub our_panel_does : PanelDemand ours_panel
our_panel_does = record {
  strays_counted = λ p i l served stray. by_row p i l served (strays stray) refl;
  replies_shown = λ p i l c m served asked says. by_row p i l served (answers c m asked says) refl;
  erra_forgets = λ p i c served asked. by_row p i _ served (refuses c asked refl) refl;
  open_greets = λ p i l served none says. by_row p i l served (greets_open none says) refl;
  secured_greets = λ p i l random served none says. by_row p i l served (greets_secured random none says) refl;
  others_stay = λ p i l j other. (step_touches_its_entry p i l).others j other;
  none_comes_or_goes = λ p i l. (step_touches_its_entry p i l).count;
  shown_by_replies = any_shown;
  greetings_told = λ p i l served none says.
      told p i l served ∙ ap Some (greeting_told (before p i l served) l none says);
  no_greetings_told = λ p i l served none says.
      told p i l served ∙ ap Some (no_greeting_told (before p i l served) l none says);
  late_told = λ p i l served some rests. told p i l served ∙ ap Some (late_told (before p i l served) l some rests);
  replies_told = λ p i l c served asked. told p i l served ∙ ap Some (reply_told (before p i l served) l c asked);
}
