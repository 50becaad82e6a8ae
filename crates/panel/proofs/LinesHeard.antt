-- What a line was, by where the talk stands (RULES, Panel): its greeting, late, or what the reader takes from it.
-- Assumes nothing.
use Rattle.std.proofs.Common.{ℕ, ◌≡◌, ap, ◌∙◌, true, false, not, List, arith, eq-eqb, ne_eqb}
use Rattle.text.specs.Flags.{is_raised}
use Rattle.text.proofs.Choices.{if_yes, if_no}
use Rattle.pjlink.specs.declared.command.Command.{Command}
use Rattle.pjlink.specs.declared.greeting.Greeting.{Greeting}
use Rattle.pjlink.specs.Greetings.{read_greeting}
use Rattle.std.specs.Prelude.{Option}
use Rattle.controller.specs.Reading.{read_reply}
use Rattle.panel.specs.Entries.{ungreeted}
use Rattle.panel.specs.Hearing.{greets, no_greeting, too_late, replies, greeting_heard, line_heard}
use Rattle.panel.specs.StepTable.{is_greeting, IsUnderWay}
use Rattle.panel.specs.declared.types.PanelEntry.{PanelEntry}

accepted_heard : (g : Option Greeting) → is_greeting g ≡ true → greeting_heard g ≡ greets
accepted_heard g h = grind arith

other_heard : (g : Option Greeting) → is_greeting g ≡ false → greeting_heard g ≡ no_greeting
other_heard g h = grind arith

module _ (e : PanelEntry) (l : List ℕ) where
  awaited_heard : e.greeting ≡ ungreeted → line_heard e l ≡ greeting_heard (read_greeting l)
  unfolding line_heard
  awaited_heard u = if_yes _ _ (eq-eqb e.greeting ungreeted u)

  pub greeting_told : e.greeting ≡ ungreeted → is_greeting (read_greeting l) ≡ true → line_heard e l ≡ greets
  greeting_told u g = awaited_heard u ∙ accepted_heard (read_greeting l) g

  pub no_greeting_told : e.greeting ≡ ungreeted → is_greeting (read_greeting l) ≡ false → line_heard e l ≡ no_greeting
  no_greeting_told u g = awaited_heard u ∙ other_heard (read_greeting l) g

  pub late_told : (e.greeting ≡ ungreeted → ⊥) → is_raised e.under_way ≡ false → line_heard e l ≡ too_late
  unfolding line_heard
  late_told g w = if_no _ _ (ne_eqb e.greeting ungreeted g) ∙ if_yes _ _ (ap not w)

  pub reply_told : (c : Command) → IsUnderWay e c → line_heard e l ≡ replies (read_reply c l)
  unfolding line_heard
  reply_told c u = grind (arith, if_no, ne_eqb)
