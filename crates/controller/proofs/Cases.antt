-- The writer and the readers, case by case: the equation of each case.
-- Assumes nothing.
use Rattle.std.proofs.Common.{arith, ℕ, ◌≤◌, ◌<◌, ◌≡◌, ap, ◌∙◌, Bool, true, false, not, List, ◌++◌, le-ltb}
use Rattle.std.proofs.lemmas.Bool.{not-true, not-false}
use Rattle.text.specs.Scans.{is_same_by, itself}
use Rattle.text.proofs.Choices.{if_yes, if_no, if_by}
use Rattle.digest.specs.Hex.{leading_digest}
use Rattle.words.specs.Texts.{is_password}
use Rattle.pjlink.specs.Commands.{is_command, body_of, command_class, command_line}
use Rattle.pjlink.specs.Forms.{erra_line, is_reply_form, head_body, reply_parameter}
use Rattle.pjlink.specs.declared.command.Command.{Command}
use Rattle.pjlink.specs.Bodies.{is_body}
use Rattle.pjlink.specs.Reading.{read_parameter}
use Rattle.text.specs.Outcomes.{CallResult, served_as, refused_as}
use Rattle.controller.specs.Writing.{command_room, is_writable, led_by, written_command}
use Rattle.controller.specs.declared.writing.Unwritten.{Unwritten}
use Rattle.controller.specs.declared.writing.Unwritten.TheVariants.{NoRoom, OutOfRange}
use Rattle.controller.specs.Reading.{ReadAs, outcome_alone, saying, read_reply, erra_said, not_a_line, other_command}

-- writing: 2, 3, or the line
module _ (c : Command) (secured : Bool) (random : ℕ) (password : List ℕ) (room : ℕ) where
  pub written_by : (P : CallResult Unwritten (Unit {0}) (Unit {0}) → Type 0)
      → (room < command_room → P (refused_as tt NoRoom))
      → (command_room ≤ room → is_writable c secured password ≡ false → P (refused_as tt OutOfRange))
      → (command_room ≤ room → is_writable c secured password ≡ true
      → P (served_as tt (led_by secured random password ++ command_line c) tt))
      → P (written_command c secured random password room)
  unfolding written_command
  written_by P short illegal line = grind arith

  module _ (enough : command_room ≤ room) where
    pub written_line : is_writable c secured password ≡ true → written_command c secured random password room
        ≡ served_as tt (led_by secured random password ++ command_line c) tt
    unfolding written_command
    written_line w = if_no _ _ (le-ltb room command_room enough) ∙ if_no _ _ (ap not w)

    module _ (writable : is_command c ≡ true) where
      pub written_plain : secured ≡ false
          → written_command c secured random password room ≡ served_as tt (command_line c) tt
      written_plain e = grind (arith, written_line)

      pub written_led : secured ≡ true → is_password password ≡ true → written_command c secured random password room
          ≡ served_as tt (leading_digest random password ++ command_line c) tt
      written_led e f = grind (arith, written_line)

-- reading a reply: the ERRA line, the form, the body, the parameter
module _ (c : Command) (l : List ℕ) where
  pub reply_by : (P : ReadAs → Type 0)
      → (is_same_by itself l erra_line ≡ true → P (outcome_alone erra_said))
      → (is_same_by itself l erra_line ≡ false → is_reply_form (command_class c) l ≡ false
      → P (outcome_alone not_a_line))
      → (is_reply_form (command_class c) l ≡ true → is_body (command_class c) (head_body l) (body_of c) ≡ false
      → P (outcome_alone other_command))
      → (is_reply_form (command_class c) l ≡ true → is_body (command_class c) (head_body l) (body_of c) ≡ true
      → P (saying (read_parameter c (reply_parameter l))))
      → P (read_reply c l)
  unfolding read_reply
  reply_by P erra unformed other said =
      let named = is_body (command_class c) (head_body l) (body_of c) in
      if_by P (is_same_by itself l erra_line) erra (λ line.
      if_by P (not (is_reply_form (command_class c) l))
      (λ f. unformed line (not-true (is_reply_form (command_class c) l) f))
      (λ f.
      let formed = not-false (is_reply_form (command_class c) l) f in
      if_by P (not named) (λ b. other formed (not-true named b)) (λ b. said formed (not-false named b))))

  pub reply_erra : is_same_by itself l erra_line ≡ true → read_reply c l ≡ outcome_alone erra_said
  unfolding read_reply
  reply_erra e = if_yes _ _ e

  module _ (line : is_same_by itself l erra_line ≡ false) where
    pub reply_unformed : is_reply_form (command_class c) l ≡ false → read_reply c l ≡ outcome_alone not_a_line
    unfolding read_reply
    reply_unformed f = if_no _ _ line ∙ if_yes _ _ (ap not f)

    module _ (formed : is_reply_form (command_class c) l ≡ true) where
      pub reply_other : is_body (command_class c) (head_body l) (body_of c) ≡ false →
          read_reply c l ≡ outcome_alone other_command
      unfolding read_reply
      reply_other b = if_no _ _ line ∙ if_no _ _ (ap not formed) ∙ if_yes _ _ (ap not b)

      pub reply_said : is_body (command_class c) (head_body l) (body_of c) ≡ true
          → read_reply c l ≡ saying (read_parameter c (reply_parameter l))
      unfolding read_reply
      reply_said b = if_no _ _ line ∙ if_no _ _ (ap not formed) ∙ if_no _ _ (ap not b)
