-- Every answer that a command can have (RULES, Commands and Controller and Class 2).
--   is_set c             c sets something: its answer is OK
--   has_own_parameter c  the parameter of c is another than `?`, so that a projector may not know it
--   is_refusal_to c n    ERRn is allowed in reply to c: to `?` all but ERR2, to any other command all of them
--   is_text_by r s       the text s follows the rule r
--   IsOfKind k m         m is an answer of the kind k
--   CanSay c m           m is an answer to c: OK to a set, ERRn, or one of the kind of the body that is asked
-- Assumes nothing.
use Rattle.std.specs.List.{list_all}
use Rattle.std.specs.Prelude.{ℕ, ◌≤◌, ◌≡◌, Bool, true, false, not, ◌||◌, List, length, ◌==◌}
use Rattle.words.specs.Inputs.{is_input}
use Rattle.words.specs.Lamps.{is_lamp_hours}
use Rattle.words.specs.ErrorDigits.{is_error_digit}
use Rattle.words.specs.Texts.{is_name, is_info, is_input_name}
use Rattle.pjlink.specs.Commands.{body_of}
use Rattle.words.specs.declared.class.ClassNumber.{ClassNumber}
use Rattle.words.specs.declared.input.Input.{Input}
use Rattle.pjlink.specs.declared.command.Command.{Command}
use Rattle.pjlink.specs.declared.command.Command.TheVariants.{NameQuery, Query}
use Rattle.pjlink.specs.declared.body.AnswerKind.{AnswerKind}
use Rattle.pjlink.specs.declared.body.AnswerKind.TheVariants as kind
use Rattle.pjlink.specs.declared.body.TextRule.{TextRule}
use Rattle.pjlink.specs.declared.body.TextRule.TheVariants as rule
use Rattle.pjlink.specs.Bodies.{kind_of}
use Rattle.pjlink.specs.Said.{Said, okay, refused, power_is, chosen_is, mutes_are, errors_are, lamps_are, inputs_are}
use Rattle.pjlink.specs.Said.{text_is, class_is, freeze_is}
use Rattle.pjlink.specs.Carried.{lamps_carried, inputs_carried, errors_carried}
use Rattle.words.specs.declared.power.PowerStatus.{PowerStatus}
use Rattle.words.specs.declared.lamp.LampHours.{LampHours}

abbrev pub is_set : Command → Bool
is_set (NameQuery i) = false
is_set (Query b) = false
is_set c = true

abbrev pub has_own_parameter : Command → Bool
has_own_parameter (Query b) = false
has_own_parameter c = true

abbrev pub is_refusal_to : Command → ℕ → Bool
is_refusal_to c n = has_own_parameter c || not (n == 2)

-- a text follows its rule (RULES, Texts)
abbrev pub is_text_by : TextRule → List ℕ → Bool
is_text_by rule.Name s = is_name s
is_text_by rule.Info s = is_info s
is_text_by rule.InputName s = is_input_name s

pub data IsOfKind : AnswerKind → Said → Type 0 where
  power : (p : PowerStatus) → IsOfKind kind.Power (power_is p)
  input : (i : Input) → is_input i ≡ true → IsOfKind kind.Input (chosen_is i)
  mutes : (video audio : Bool) → IsOfKind kind.Mutes (mutes_are video audio)
  errors : (ds : List ℕ) → length ds ≡ errors_carried → list_all is_error_digit ds ≡ true
      → IsOfKind kind.Errors (errors_are ds)
  lamps : (ls : List LampHours) → 1 ≤ length ls → length ls ≤ lamps_carried → list_all is_lamp_hours ls ≡ true
      → IsOfKind kind.Lamps (lamps_are ls)
  inputs : (is : List Input) → 1 ≤ length is → length is ≤ inputs_carried → list_all is_input is ≡ true
      → IsOfKind kind.Inputs (inputs_are is)
  text : (r : TextRule) (s : List ℕ) → is_text_by r s ≡ true → IsOfKind (kind.Text r) (text_is s)
  class_said : (k : ClassNumber) → IsOfKind kind.Class (class_is k)
  freeze : (on : Bool) → IsOfKind kind.Freeze (freeze_is on)

pub data CanSay : Command → Said → Type 0 where
  done : {c : Command} → is_set c ≡ true → CanSay c okay
  refuses : {c : Command} (n : ℕ) → 1 ≤ n → n ≤ 4 → is_refusal_to c n ≡ true → CanSay c (refused n)
  tells : {c : Command} {m : Said} → is_set c ≡ false → IsOfKind (kind_of (body_of c)) m → CanSay c m
