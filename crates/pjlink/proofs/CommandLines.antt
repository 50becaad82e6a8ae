-- A command's line: spelt from its class, the four letters of its body and the bytes of its parameter, it has the form
-- for a set-up of that class or a higher one, and for no lower one, and gives all three back; no byte of it but the
-- last is CR.
-- Assumes nothing.
use Rattle.std.specs.List.{list_all}
use Rattle.std.proofs.Common.{ℕ, ◌+◌, ◌≤◌, ◌<◌, ◌≡◌, sym, ap, ◌∙◌, true, false, List}
use Rattle.std.proofs.Common.{◌∷◌, ◌++◌, arith, length, length-append, nat_le, le-leb, ne_eqb, codes}
use Rattle.std.proofs.lemmas.Bool.{lt-leb}
use Rattle.text.proofs.Scanning.{list_all_implies}
use Rattle.words.specs.Bytes.{is_alnum, is_not_cr, is_cr_free}
use Rattle.words.specs.Inputs.{input_text}
use Rattle.pjlink.specs.Commands.{body_text, body_of, command_class, class_digit, parameter_of}
use Rattle.pjlink.specs.Commands.{command_text, command_line}
use Rattle.pjlink.specs.Forms.{head_body, is_command_form, command_parameter, line_class}
use Rattle.words.specs.declared.input.Input.{Input}
use Rattle.pjlink.specs.declared.command.Command.{Command}
use Rattle.words.proofs.Characters.{no_cr_of, alnum_not_cr}
use Rattle.words.proofs.InputsReadBack.{input_alnum}
use Rattle.pjlink.proofs.Bodies.{four, body_spelt}

pub spelt : (c : Command) {h : ℕ} {s p : List ℕ} → h ≡ class_digit (command_class c) → s ≡ body_text (body_of c)
    → p ≡ parameter_of c
    → codes "%" ++ (h ∷ four s) ++ codes " " ++ p ++ codes "\r" ≡ command_line c
spelt c k e f = grind arith

pub input_no_cr : (i : Input) → list_all is_not_cr (input_text i) ≡ true
input_no_cr i = list_all_implies is_alnum is_not_cr alnum_not_cr (input_text i) (input_alnum i)

list_all-parameter_of : (c : Command) → list_all is_not_cr (parameter_of c) ≡ true
list_all-parameter_of c = grind (arith, input_no_cr)

module _ (c : Command) where
  abbrev h : ℕ
  h = class_digit (command_class c)

  abbrev spelled : List ℕ
  spelled = codes "%" ++ (h ∷ four (body_text (body_of c))) ++ codes " " ++ parameter_of c

  text : command_text c ≡ spelled
  text = ap (λ (s : List ℕ). codes "%" ++ (h ∷ s) ++ codes " " ++ parameter_of c) (sym (body_spelt (body_of c)).long)

  abbrev body : List ℕ
  body = body_text (body_of c)

  letters : list_all is_alnum (four body) ≡ true
  letters = ap (list_all is_alnum) (body_spelt (body_of c)).long ∙ (body_spelt (body_of c)).letters

  pub head_body-command_text : head_body (command_text c) ≡ body_text (body_of c)
  head_body-command_text = ap head_body text ∙ (body_spelt (body_of c)).long

  pub command_parameter-command_text : command_parameter (command_text c) ≡ parameter_of c
  command_parameter-command_text = ap command_parameter text

  pub line_class-command_text : line_class (command_text c) ≡ command_class c
  line_class-command_text = omega arith

  pub command_length : length (command_text c) ≤ 10
  command_length = grind arith

  pub length-command_line : length (command_line c) ≡ length (command_text c) + 1
  length-command_line = length-append (command_text c) (codes "\r")

  pub line_at_most_11 : length (command_line c) ≤ 11
  line_at_most_11 = grind arith

  module _ (k : ℕ) (low : 1 ≤ k) (high : k ≤ 2) where
    pub form_by_class : is_command_form k (command_text c) ≡ nat_le (command_class c) k
    unfolding is_command_form
    form_by_class = grind (arith, le-leb)

    pub command_form : command_class c ≤ k → is_command_form k (command_text c) ≡ true
    command_form h = form_by_class ∙ le-leb (command_class c) k h

    -- a command of a higher class than the set-up's is swallowed
    pub command_of_higher_class : k < command_class c → is_command_form k (command_text c) ≡ false
    command_of_higher_class h = form_by_class ∙ lt-leb (command_class c) k h

  pub command_no_cr : is_cr_free (command_text c) ≡ true
  command_no_cr = grind (arith, ne_eqb, no_cr_of, list_all-parameter_of)

-- a line of the form has its head
pub form_long : (k : ℕ) (l : List ℕ) → is_command_form k l ≡ true → 7 ≤ length l
unfolding is_command_form
form_long k l e = grind arith
