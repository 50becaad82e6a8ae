-- An answer's parameter fits a reply: it is short, and no byte of it is CR.
-- Assumes nothing.
use Rattle.std.specs.List.{list_all}
use Rattle.std.proofs.Common.{ℕ, ◌≤◌, ◌≡◌, refl, ap, Bool, true, false, not, List, [], ◌∷◌, arith, length}
use Rattle.std.proofs.Common.{length-append, ne_eqb}
use Rattle.std.proofs.lemmas.List.{length-map}
use Prim.Native.Char.{code}
use Rattle.text.proofs.Choices.{both}
use Rattle.text.proofs.Scanning.{list_all-append, list_all_implies}
use Rattle.numbers.specs.Decimal.{digits}
use Rattle.numbers.proofs.Digits.{digits_at_most_5, digits_without}
use Rattle.words.specs.Bytes.{is_not_cr, is_cr_free}
use Rattle.words.specs.Inputs.{is_input, input_text, number_digit}
use Rattle.words.specs.Texts.{is_text, name_most, info_most, input_name_most}
use Rattle.words.specs.Powers.{switch_code, power_text}
use Rattle.pjlink.specs.declared.command.Command.{Command}
use Rattle.words.proofs.Characters.{no_cr_of}
use Rattle.words.proofs.TextsTold.{name_long, info_long, input_name_long, text_bytes, name_is_text}
use Rattle.pjlink.proofs.CommandLines.{input_no_cr}
use Rattle.pjlink.specs.Said.{Said, text_is, said_bytes, parameter_most, said_most, bytes_most}
use Rattle.words.specs.Lamps.{lamp_text, is_lamp_hours}
use Rattle.words.specs.Muting.{halves_text}
use Rattle.words.specs.ErrorDigits.{errors_text}
use Rattle.pjlink.specs.declared.body.AnswerKind.{AnswerKind}
use Rattle.pjlink.specs.declared.body.TextRule.{TextRule}
use Rattle.pjlink.specs.declared.body.TextRule.TheVariants as rule
use Rattle.pjlink.specs.CanSay.{CanSay, done, refuses, tells, IsOfKind, power, input, mutes, errors, lamps, inputs}
use Rattle.pjlink.specs.CanSay.{text, class_said, freeze, is_text_by}
use Rattle.words.specs.declared.power.PowerStatus.{PowerStatus}
use Rattle.words.specs.Classes.{class_text}
use Rattle.words.specs.declared.class.ClassNumber.{ClassNumber}
use Rattle.words.specs.declared.lamp.LampHours.{LampHours}
use Rattle.pjlink.proofs.Joined.{list_all-list_text, joined_long}

mutes_within : (v a : Bool) → length (halves_text v a) ≤ 2
mutes_within v a = grind arith

-- hours of five digits make a lamp of at most seven bytes
lamp_of_seven : (x : LampHours) → is_lamp_hours x ≡ true → length (lamp_text x) ≤ 7
lamp_of_seven x e = grind (arith, length-append, digits_at_most_5)

kind_long : {k : AnswerKind} {m : Said} → IsOfKind k m → length (said_bytes m) ≤ bytes_most m
unfolding said_bytes
kind_long (power p) = omega arith
kind_long (input i e) = omega arith
kind_long (mutes v a) = mutes_within v a
kind_long (errors ds h e) = omega (arith, length-map ds number_digit)
kind_long (lamps ls l h e) = omega (arith, joined_long lamp_text is_lamp_hours 7 lamp_of_seven ls e l)
kind_long (inputs is l h e) = omega (arith, joined_long input_text is_input 2 (λ x f. omega arith) is e l)
kind_long (text r s e) = omega arith
kind_long (class_said k) = omega arith
kind_long (freeze on) = omega arith

pub said_long : {c : Command} {m : Said} → CanSay c m → length (said_bytes m) ≤ bytes_most m
unfolding said_bytes
said_long (done s) = omega arith
said_long (refuses n l h t) = omega arith
said_long (tells asks of) = kind_long of

-- the room of a text, by its rule
abbrev rule_most : TextRule → ℕ
rule_most rule.Name = name_most
rule_most rule.Info = info_most
rule_most rule.InputName = input_name_most

rule_is_text : (r : TextRule) (s : List ℕ) → is_text_by r s ≡ true → is_text (rule_most r) s ≡ true
rule_is_text rule.Name s e = name_is_text s e
rule_is_text rule.Info s e = e
rule_is_text rule.InputName s e = e

most_within : {c : Command} {m : Said} → CanSay c m → bytes_most m ≤ said_most
most_within h = grind (arith, name_long, info_long, input_name_long)

pub said_within_most : {c : Command} {m : Said} → CanSay c m → length (said_bytes m) ≤ said_most
said_within_most w = omega (arith, said_long w, most_within w)

is_not_cr-number_digit : (d : ℕ) → is_not_cr (number_digit d) ≡ true
is_not_cr-number_digit d = ap not (ne_eqb (number_digit d) (code "\r") (omega arith))

class_plain : (k : ClassNumber) → list_all is_not_cr (class_text k) ≡ true
class_plain k = grind arith

list_all-errors_text : (ds : List ℕ) → list_all is_not_cr (errors_text ds) ≡ true
list_all-errors_text [] = refl
list_all-errors_text (d ∷ ds) = both (is_not_cr-number_digit d) (list_all-errors_text ds)

text_no_cr : (n : ℕ) (s : List ℕ) → is_text n s ≡ true → list_all is_not_cr s ≡ true
text_no_cr n s e = grind (arith, list_all_implies, text_bytes)

list_all-lamp_text : (x : LampHours) → list_all is_not_cr (lamp_text x) ≡ true
list_all-lamp_text x =
    list_all-append is_not_cr (digits x.hours) (code " " ∷ switch_code x.lit ∷ [])
    (digits_without "\r" (omega arith) x.hours) (flag x.lit)
  where
    flag : (on : Bool) → list_all is_not_cr (code " " ∷ switch_code on ∷ []) ≡ true
    flag true = refl
    flag false = refl

list_all-power_text : (p : PowerStatus) → list_all is_not_cr (power_text p) ≡ true
list_all-power_text p = grind arith

list_all-halves_text : (v a : Bool) → list_all is_not_cr (halves_text v a) ≡ true
list_all-halves_text v a = grind arith

kind_has_no_cr : {k : AnswerKind} {m : Said} → IsOfKind k m → list_all is_not_cr (said_bytes m) ≡ true
unfolding said_bytes
kind_has_no_cr (power p) = list_all-power_text p
kind_has_no_cr (input i e) = input_no_cr i
kind_has_no_cr (mutes v a) = list_all-halves_text v a
kind_has_no_cr (errors ds h e) = list_all-errors_text ds
kind_has_no_cr (lamps ls l h e) =
    list_all-list_text lamp_text is_lamp_hours is_not_cr (λ x t. list_all-lamp_text x) refl ls e
kind_has_no_cr (inputs is l h e) = list_all-list_text input_text is_input is_not_cr (λ x t. input_no_cr x) refl is e
kind_has_no_cr (text r s e) = text_no_cr (rule_most r) s (rule_is_text r s e)
kind_has_no_cr (class_said k) = class_plain k
kind_has_no_cr (freeze true) = refl
kind_has_no_cr (freeze false) = refl

has_no_cr : {c : Command} {m : Said} → CanSay c m → list_all is_not_cr (said_bytes m) ≡ true
unfolding said_bytes
has_no_cr (done s) = refl
has_no_cr (refuses n l h t) = both (is_not_cr-number_digit n) refl
has_no_cr (tells asks of) = kind_has_no_cr of

pub said_plain : {c : Command} {m : Said} → CanSay c m
    → (length (said_bytes m) ≤ parameter_most) × (is_cr_free (said_bytes m) ≡ true)
said_plain {c} {m} w = (said_within_most w, no_cr_of (said_bytes m) (has_no_cr w))

-- a text is its own parameter
pub text_said : (s : List ℕ) → said_bytes (text_is s) ≡ s
unfolding said_bytes
text_said s = refl
