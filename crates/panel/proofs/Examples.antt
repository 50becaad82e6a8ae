-- Lines that the rules leave to be read (docs/DECISIONS.md), each a stray: the ERRA line before a greeting, the
-- ERRA line and a second greeting with no command under way, and a second greeting with one.
-- Assumes nothing.
use Rattle.std.proofs.Common.{arith, ℕ, ◌≡◌, refl, ap, false, List}
use Rattle.text.specs.Flags.{is_raised}
use Rattle.text.specs.Scans.{is_same_by, itself}
use Rattle.pjlink.specs.Computing.{computing as pjlink}
use Rattle.pjlink.specs.Commands.{command_class}
use Rattle.pjlink.specs.Forms.{erra_line, greeting_open, greeting_secured, is_reply_form}
use Rattle.pjlink.specs.declared.command.Command.{Command}
use Rattle.controller.specs.Reading.{ReadAs, reading_outcome_number}
use Rattle.controller.proofs.Cases.{reply_unformed}
use Rattle.pjlink.proofs.GreetingCases.{greeting_refused}
use Rattle.panel.specs.Entries.{ungreeted}
use Rattle.panel.specs.Stepping.{with_stray, heard_line}
use Rattle.panel.specs.StepTable.{IsUnderWay, malformed}
use Rattle.panel.specs.declared.types.PanelEntry.{PanelEntry}
use Rattle.panel.proofs.StepsByTable.{stray_steps, step_late}

module _ (e : PanelEntry) where
  pub erra_before_greeting : e.greeting ≡ ungreeted → heard_line e erra_line ≡ with_stray e
  erra_before_greeting g = grind (arith, stray_steps, greeting_refused)

  module _ (greeted : e.greeting ≡ ungreeted → ⊥) (rests : is_raised e.under_way ≡ false) where
    pub erra_late : heard_line e erra_line ≡ with_stray e
    erra_late = step_late e erra_line greeted rests

    pub greeting_late : heard_line e greeting_open ≡ with_stray e
    greeting_late = step_late e greeting_open greeted rests

  module _ (c : Command) (waits : IsUnderWay e c) where
    -- neither the ERRA line nor of a reply's form
    pub unformed_strays : (l : List ℕ) → is_same_by itself l erra_line ≡ false → is_reply_form (command_class c) l
        ≡ false
        → heard_line e l ≡ with_stray e
    unformed_strays l line form =
        stray_steps e l
        (malformed c waits (ap (λ (r : ReadAs). reading_outcome_number r.outcome) (reply_unformed c l line form)))

    pub greeting_malformed : heard_line e greeting_open ≡ with_stray e
    unfolding pjlink
    greeting_malformed = unformed_strays greeting_open refl refl

    -- whatever its random number
    pub secured_greeting_malformed : (digits : List ℕ) → heard_line e (greeting_secured digits) ≡ with_stray e
    unfolding pjlink
    secured_greeting_malformed digits = grind (arith, unformed_strays)

pub ruleset counted_strays =
    (erra_before_greeting, erra_late, greeting_late, unformed_strays, greeting_malformed, secured_greeting_malformed)
