-- THE LAW, the other way (RULES, Controller): whatever line comes, a reading that means something was a line that says
-- it, and a line that says something is read so. The ERRA line and no other is read as such. So a line's outcome is
-- that of the first test it fails.
-- Assumes nothing.
use Rattle.std.proofs.Common.{arith, ℕ, ◌≡◌, sym, ap, ◌∙◌, Bool, not, List, ◌↔◌, if◌then◌else◌}
use Rattle.text.specs.Scans.{is_same_by, itself}
use Rattle.text.proofs.Choices.{if_yes, if_no}
use Rattle.text.proofs.Sameness.{same_is}
use Rattle.pjlink.specs.Forms.{erra_line, is_reply_form, head_body, reply_parameter}
use Rattle.pjlink.specs.Commands.{body_of, command_class}
use Rattle.pjlink.specs.declared.command.Command.{Command}
use Rattle.pjlink.proofs.RepliesReadBack.{form_not_erra}
use Rattle.pjlink.specs.Bodies.{is_body}
use Rattle.pjlink.specs.Said.{Said}
use Rattle.pjlink.specs.CanSay.{CanSay}
use Rattle.pjlink.specs.Reading.{read_parameter}
use Rattle.pjlink.specs.Writings.{Says, IsAllowed, says}
use Rattle.pjlink.proofs.ReadSound.{CanRead, read_sound}
use Rattle.pjlink.proofs.ReadWritings.{written_is_read, not_allowed_says_nothing}
use Rattle.controller.specs.Reading.{meaning, saying, read_reply, LineSays}
use Rattle.controller.specs.Reading.{ReadingOutcome, means_it, erra_said, not_a_line, other_command, disallowed}
use Rattle.controller.proofs.Cases.{reply_by, reply_said}
use Rattle.controller.proofs.ReadsBack.{can_mean}
use Rattle.controller.proofs.Refusals.{erra_read}

module _ (c : Command) where
  said_sound : {p : List ℕ} {m : Said} → CanRead c p m → (saying m).outcome ≡ means_it → Says c m p
  said_sound h g = grind arith

  pub means_what_was_written : (l : List ℕ) → (read_reply c l).outcome ≡ means_it → LineSays c l (read_reply c l).said
  means_what_was_written l =
      reply_by c l (λ r. r.outcome ≡ means_it → LineSays c l r.said) (λ e q. cc) (λ e f q. cc) (λ f b q. cc)
      (λ f b q. record { form = f; body = b; says = said_sound (read_sound c _) q })

  pub reads_sound : (l : List ℕ) → (read_reply c l).outcome ≡ means_it → CanSay c (read_reply c l).said
  reads_sound l e = (means_what_was_written l e).says.can

  pub what_was_written_is_meant : (l : List ℕ) (m : Said) → LineSays c l m → read_reply c l ≡ meaning m
  what_was_written_is_meant l m line = grind (arith, reply_said, form_not_erra, written_is_read, can_mean)

  -- the ERRA line, and no other
  saying_no_erra : (m : Said) → (saying m).outcome ≡ erra_said → ⊥
  saying_no_erra m h = grind arith

  erra_was_written : (l : List ℕ) → (read_reply c l).outcome ≡ erra_said → l ≡ erra_line
  erra_was_written l =
      reply_by c l (λ r. r.outcome ≡ erra_said → l ≡ erra_line) (λ e q. same_is l erra_line e)
      (λ e f q. cc) (λ f b q. cc) (λ f b q. absurd (saying_no_erra (read_parameter c (reply_parameter l)) q))

  pub erra_exactly : (l : List ℕ) → ((read_reply c l).outcome ≡ erra_said) ↔ (l ≡ erra_line)
  erra_exactly l = grind (arith, erra_was_written, erra_read)

  -- the first test that a line fails
  abbrev first_outcome : List ℕ → Bool → ReadingOutcome
  first_outcome l allowed =
      if is_same_by itself l erra_line then erra_said
      else if not (is_reply_form (command_class c) l) then not_a_line
      else if not (is_body (command_class c) (head_body l) (body_of c)) then other_command
      else if not allowed then disallowed
      else means_it

  allowed_outcome : (p : List ℕ) {t : Bool} → IsAllowed c p t
      → (saying (read_parameter c p)).outcome ≡ (if not t then disallowed else means_it)
  allowed_outcome p h = grind (arith, written_is_read, can_mean, not_allowed_says_nothing)

  pub outcome_is_first : (l : List ℕ) {t : Bool} → IsAllowed c (reply_parameter l) t
      → (read_reply c l).outcome ≡ first_outcome l t
  outcome_is_first l {t} allowed =
      reply_by c l (λ r. r.outcome ≡ first_outcome l t) (λ e. sym (if_yes _ _ e))
      (λ e f. sym (if_no _ _ e ∙ if_yes _ _ (ap not f)))
      (λ f b. sym (if_no _ _ (form_not_erra (command_class c) l f) ∙ if_no _ _ (ap not f) ∙ if_yes _ _ (ap not b)))
      (λ f b. allowed_outcome (reply_parameter l) allowed
      ∙ sym (if_no _ _ (form_not_erra (command_class c) l f) ∙ if_no _ _ (ap not f) ∙ if_no _ _ (ap not b)))
