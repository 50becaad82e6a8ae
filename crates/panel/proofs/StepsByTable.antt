-- THE TABLE of what each kind of line does is the step's: a legal entry steps by it, and an entry that it gives is the
-- one that the step gives, so that it gives one.
-- Assumes nothing.
use Rattle.std.proofs.Common.{ℕ, ◌≡◌, refl, sym, ap, ◌∙◌, true, false, not, List, arith, eqb-true, eq-eqb, ne_eqb}
use Rattle.std.proofs.lemmas.Bool.{eqb-false, not-true, not-false}
use Rattle.std.specs.Prelude.{Option, Some, None, is_some}
use Rattle.text.specs.Flags.{is_raised}
use Rattle.text.proofs.Choices.{if_yes, if_no, if_by}
use Rattle.pjlink.specs.declared.command.Command.{Command}
use Rattle.pjlink.specs.Said.{Said}
use Rattle.pjlink.specs.Greetings.{read_greeting}
use Rattle.controller.specs.Reading.{ReadAs, read_reply, reading_outcome_number, ReadingOutcome, means_it, erra_said}
use Rattle.controller.specs.Reading.{not_a_line, other_command, disallowed}
use Rattle.pjlink.specs.declared.greeting.Greeting.{Greeting}
use Rattle.pjlink.specs.declared.greeting.Greeting.TheVariants.{Open, Secured}
use Rattle.controller.proofs.Refusals.{erra_read}
use Rattle.controller.proofs.ReadsSound.{erra_exactly}
use Rattle.codes.specs.Commands.{coded_command}
use Rattle.panel.specs.Entries.{ungreeted}
use Rattle.panel.specs.Stepping.{with_stray, greeted_as, heard_as, heard_by, replied_to, heard_line}
use Rattle.panel.specs.LegalPanels.{is_entry}
use Rattle.panel.specs.StepTable.{is_greeting, IsUnderWay, IsStray, ungreeted_malformed, late, malformed, foreign}
use Rattle.panel.specs.StepTable.{not_allowed, StepTo, greets_open, greets_secured, strays, answers, refuses}
use Rattle.panel.specs.declared.types.PanelEntry.{PanelEntry}
use Rattle.panel.proofs.TalksTold.{is_some-coded_command}

-- the step, by where the talk stands
module _ (e : PanelEntry) (l : List ℕ) where
  pub step_by : (P : PanelEntry → Type 0)
      → (e.greeting ≡ ungreeted → P (greeted_as e (read_greeting l)))
      → ((e.greeting ≡ ungreeted → ⊥) → is_raised e.under_way ≡ false → P (with_stray e))
      → ((e.greeting ≡ ungreeted → ⊥) → is_raised e.under_way ≡ true → P (replied_to e (coded_command e.command) l))
      → P (heard_line e l)
  unfolding heard_line
  step_by P greets rests waits = grind (arith, if_by, eqb-true, eqb-false, not-true, not-false)

  pub step_greets : e.greeting ≡ ungreeted → heard_line e l ≡ greeted_as e (read_greeting l)
  unfolding heard_line
  step_greets g = if_yes _ _ (eq-eqb e.greeting ungreeted g)

  pub step_late : (e.greeting ≡ ungreeted → ⊥) → is_raised e.under_way ≡ false → heard_line e l ≡ with_stray e
  unfolding heard_line
  step_late g w = if_no _ _ (ne_eqb e.greeting ungreeted g) ∙ if_yes _ _ (ap not w)

  pub step_replied : (c : Command) → IsUnderWay e c → heard_line e l ≡ heard_by e (read_reply c l)
  unfolding heard_line
  step_replied c u = grind (arith, if_no, ne_eqb)

  -- each row is the step
  not_greeting : (g : Option Greeting) → is_greeting g ≡ false → greeted_as e g ≡ with_stray e
  not_greeting g h = grind arith

  numbered : (r : ReadAs) {n : ℕ} → (n ≡ 0 → ⊥) → reading_outcome_number r.outcome ≡ n → heard_by e r ≡ with_stray e
  numbered r {n} some h = grind arith

  pub stray_steps : IsStray e l → heard_line e l ≡ with_stray e
  unfolding heard_line
  stray_steps h = grind (arith, step_greets, not_greeting, step_late, step_replied, numbered)

  pub row_steps : {f : PanelEntry} → StepTo e l f → heard_line e l ≡ f
  unfolding heard_line
  row_steps h = grind (arith, step_greets, stray_steps, step_replied, erra_read)

  pub one_step : {f g : PanelEntry} → StepTo e l f → StepTo e l g → f ≡ g
  one_step p q = sym (row_steps p) ∙ row_steps q

  -- and every line has a row
  greeting_row : e.greeting ≡ ungreeted → (g : Option Greeting) → read_greeting l ≡ g → StepTo e l (greeted_as e g)
  greeting_row u (Some Open) r = greets_open u r
  greeting_row u (Some (Secured random)) r = greets_secured random u r
  greeting_row u g r = strays (ungreeted_malformed u (ap is_greeting r))

  reply_row : (c : Command) → IsUnderWay e c → (o : ReadingOutcome) (m : Said) →
      read_reply c l ≡ record { outcome = o; said = m }
      → StepTo e l (heard_as e o m)
  reply_row c u means_it m r = answers c m u r
  reply_row c u erra_said m r = refuses c u ((erra_exactly c l).0 (ap (λ (a : ReadAs). a.outcome) r))
  reply_row c u not_a_line m r = strays (malformed c u (ap (λ (a : ReadAs). reading_outcome_number a.outcome) r))
  reply_row c u other_command m r = strays (foreign c u (ap (λ (a : ReadAs). reading_outcome_number a.outcome) r))
  reply_row c u disallowed m r = strays (not_allowed c u (ap (λ (a : ReadAs). reading_outcome_number a.outcome) r))

  pub steps_by_the_table : is_entry e ≡ true → StepTo e l (heard_line e l)
  steps_by_the_table legal =
      step_by (StepTo e l) (λ g. greeting_row g (read_greeting l) refl) (λ g w. strays (late g w))
      (λ g w. by g w (coded_command e.command) refl)
    where
      by : (e.greeting ≡ ungreeted → ⊥) → is_raised e.under_way ≡ true → (m : Option Command)
          → coded_command e.command ≡ m
          → StepTo e l (replied_to e m l)
      by g w (Some c) a =
          reply_row c (record { greeted = g; waits = w; asked = a }) (read_reply c l).outcome (read_reply c l).said refl
      by g w None a =
          cc (ap is_some a, is_some-coded_command e legal w)
