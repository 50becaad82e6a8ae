-- THE LAW: for every command and every answer that it can have, reading a writing of the answer gives the answer back;
-- and so its bytes, which are a writing.
-- Assumes nothing.
use Rattle.std.proofs.lemmas.Grind.{common_steps}
use Rattle.std.proofs.Common.{ℕ, zero, suc, ◌≡◌, ◌≤◌, Bool, true, List, [], ◌∷◌, length, refl, sym, subst, ap}
use Rattle.std.proofs.Common.{◌∙◌, arith, slice_index_or, codes, Option, None}
use Rattle.std.proofs.lemmas.Bool.{eq-eqb}
use Rattle.std.proofs.lemmas.List.{length-map}
use Prim.Native.Char.{code}
use Rattle.text.proofs.Choices.{if_yes, if_no, both}
use Rattle.words.specs.Codec.{Codec, Ends, Plain, whole_value}
use Rattle.words.specs.Combinations.{whole_says, list_says}
use Rattle.words.specs.Classes.{class_text}
use Rattle.words.specs.ErrorDigits.{errors_text}
use Rattle.words.specs.Inputs.{is_input, input_text, number_digit}
use Rattle.words.specs.Joined.{JoinedBy, list_text}
use Rattle.words.specs.Lamps.{WritesLampHours}
use Rattle.words.specs.Laws.{power_codec, input_codec, mutes_codec, errors_codec, lamp_codec, class_codec, switch_codec}
use Rattle.words.specs.Muting.{halves_text, mutes_of}
use Rattle.words.specs.Powers.{power_text, switch_code}
use Rattle.words.specs.Refusing.{error_reply_digit, error_reply_read}
use Rattle.words.specs.Texts.{name_most, info_most, input_name_most}
use Rattle.words.specs.declared.input.Input.{Input}
use Rattle.words.specs.declared.lamp.LampHours.{LampHours}
use Rattle.words.specs.declared.error_reply.ErrorReply.{ErrorReply}
use Rattle.words.specs.declared.error_reply.ErrorReply.TheVariants.{Undefined, OutOfParameter, Unavailable, Failure}
use Rattle.words.proofs.TextsTold.{name_is_text}
use Rattle.pjlink.specs.Bodies.{kind_of}
use Rattle.pjlink.specs.Commands.{body_of}
use Rattle.pjlink.specs.declared.command.Command.{Command}
use Rattle.pjlink.specs.Said.{Said, okay, refused, power_is, chosen_is, mutes_are, errors_are, lamps_are, inputs_are}
use Rattle.pjlink.specs.Said.{class_is, freeze_is, said_text, said_bytes}
use Rattle.pjlink.specs.Carried.{lamps_carried, inputs_carried, errors_carried}
use Rattle.pjlink.specs.CanSay.{is_set, is_refusal_to, is_text_by}
use Rattle.pjlink.specs.declared.body.AnswerKind.{AnswerKind}
use Rattle.pjlink.specs.declared.body.TextRule.{TextRule}
use Rattle.pjlink.specs.declared.body.TextRule.TheVariants as rule
use Rattle.pjlink.specs.CanSay.{CanSay, done, refuses, tells, IsOfKind, power, input, mutes, errors, lamps, inputs}
use Rattle.pjlink.specs.CanSay.{text, class_said, freeze}
use Rattle.pjlink.specs.Reading.{said_or, read_queried, read_value, refusal_or, read_parameter}
use Rattle.pjlink.specs.Writings.{Writes}
use Rattle.words.proofs.Refusals.{not_four, digit_first, text_no_refusal}
use Rattle.pjlink.proofs.SaidRows.{said_row}
use Rattle.pjlink.proofs.Written.{list_legal, said_is_written}

-- the value is read once no refusal is found
value : (c : Command) (p : List ℕ) {m : Said} → whole_value error_reply_read p ≡ None → read_value c p ≡ m →
    read_parameter c p ≡ m
unfolding read_parameter
value c p z e = ap (λ o. refusal_or c o (read_value c p)) z ∙ e

-- from the bytes that these are
by : (c : Command) {p : List ℕ} (m : Said) → p ≡ said_bytes m → read_parameter c (said_text m) ≡ m →
    read_parameter c p ≡ m
by c m same e = ap (read_parameter c) (same ∙ said_row m) ∙ e

ok_back : (c : Command) → is_set c ≡ true → read_value c (codes "OK") ≡ okay
ok_back c e = if_yes okay (read_queried (kind_of (body_of c)) (codes "OK")) e

refusal_numbered : (n : ℕ) → 1 ≤ n → n ≤ 4 → (r : ErrorReply) × (n ≡ error_reply_digit r)
refusal_numbered zero l h = absurd (omega arith)
refusal_numbered (suc zero) l h = (Undefined, refl)
refusal_numbered (suc (suc zero)) l h = (OutOfParameter, refl)
refusal_numbered (suc (suc (suc zero))) l h = (Unavailable, refl)
refusal_numbered (suc (suc (suc (suc zero)))) l h = (Failure, refl)
refusal_numbered (suc (suc (suc (suc (suc n))))) l h = absurd (omega arith)

read_parameter-said_text : (c : Command) (r : ErrorReply) → is_refusal_to c (error_reply_digit r) ≡ true
    → read_parameter c (said_text (refused (error_reply_digit r))) ≡ refused (error_reply_digit r)
unfolding read_parameter
read_parameter-said_text c r t = grind arith

length-halves_text : (v a : Bool) → length (halves_text v a) ≡ 2
length-halves_text v a = grind arith

-- a list begins as its first thing does, and that with a digit
lamp_first : (l : LampHours) (t : List ℕ) → WritesLampHours l t → (b : ℕ) × (u : List ℕ) × (t ≡ b ∷ u) × (b ≤ code "9")
lamp_first l t w = grind (arith, not_four)

lamps_first : (ls : List LampHours) (p : List ℕ) → JoinedBy WritesLampHours ls p → slice_index_or p 0 0 ≤ code "9"
lamps_first [] p w = absurd w
lamps_first (l ∷ []) p w = grind (arith, lamp_first l p w)
lamps_first (l ∷ m ∷ ls) p (t, rest, w, more, e) = grind (arith, common_steps, lamp_first)

inputs_first : (is : List Input) → 1 ≤ length is → slice_index_or (list_text input_text is) 0 0 ≤ code "9"
inputs_first is h = grind arith

-- a value of a codec, read from its own text
module _
    {A : Type 0}
    {legal : A → Bool}
    {text : A → List ℕ}
    {read : List ℕ → Option (A × List ℕ)}
    (it : Codec Ends legal text (Plain legal text) read)
  where
    own_back : (says : A → Said) (x : A) → legal x ≡ true → said_or says (whole_value read (text x)) ≡ says x
    own_back says x h = ap (said_or says) ((whole_says it).back x (text x) (h, refl))

-- what is read of a writing: no refusal, and by its kind the value
record BackBy (k : AnswerKind) (p : List ℕ) (m : Said) : Type 0 where
  pub unrefused : whole_value error_reply_read p ≡ None
  pub value : read_queried k p ≡ m

-- from the bytes that these are
own_by : (k : AnswerKind) {p : List ℕ} (m : Said) → p ≡ said_bytes m → BackBy k (said_text m) m → BackBy k p m
own_by k m same back = subst (λ (q : List ℕ). BackBy k q m) (sym (same ∙ said_row m)) back

rule_unrefused : (r : TextRule) (s : List ℕ) → is_text_by r s ≡ true → whole_value error_reply_read s ≡ None
rule_unrefused rule.Name s e = text_no_refusal name_most s (name_is_text s e)
rule_unrefused rule.Info s e = text_no_refusal info_most s e
rule_unrefused rule.InputName s e = text_no_refusal input_name_most s e

kind_back : {k : AnswerKind} {m : Said} → IsOfKind k m → (p : List ℕ) → Writes m p → BackBy k p m
kind_back (power q) p w =
    own_by _ _ w (record {
      unrefused = not_four (power_text q) (λ e. omega arith);
      value = own_back power_codec power_is q refl;
    })
kind_back (input i e) p w =
    own_by _ _ w (record {
      unrefused = not_four (input_text i) (λ e. omega arith);
      value = own_back input_codec chosen_is i e;
    })
kind_back (mutes v a) p w =
    own_by _ _ w (record {
      unrefused = not_four (halves_text v a) (λ e. omega (arith, length-halves_text v a));
      value = own_back mutes_codec (λ m. mutes_are m.video m.audio) (mutes_of v a) refl;
    })
kind_back (errors ds h e) p w =
    own_by _ _ w (record {
      unrefused = not_four (errors_text ds) (λ q. omega (arith, length-map ds number_digit));
      value = own_back errors_codec errors_are ds (both (eq-eqb (length ds) errors_carried h) e);
    })
kind_back (lamps ls l h e) p w = record {
  unrefused = digit_first p (lamps_first ls p w);
  value = ap (said_or lamps_are) ((list_says lamp_codec lamps_carried).back ls p (h, w));
}
kind_back (inputs is l h e) p w =
    let it = list_says input_codec inputs_carried in
    own_by _ _ w (record {
      unrefused = digit_first (list_text input_text is) (inputs_first is l);
      value = ap (said_or inputs_are)
          (it.back is (list_text input_text is) (it.own is (list_legal is_input inputs_carried is l h e)));
    })
kind_back (text r s e) p w = own_by _ _ w (record { unrefused = rule_unrefused r s e; value = if_yes _ _ e })
kind_back (class_said k) p w =
    own_by _ _ w (record {
      unrefused = not_four (class_text k) (λ e. omega arith);
      value = own_back class_codec class_is k refl;
    })
kind_back (freeze on) p w =
    own_by _ _ w (record {
      unrefused = not_four (switch_code on ∷ []) (λ e. omega arith);
      value = own_back switch_codec freeze_is on refl;
    })

-- from any writing of the answer
pub written_back : {c : Command} {m : Said} → CanSay c m → (p : List ℕ) → Writes m p → read_parameter c p ≡ m
written_back {c} (done s) p w = by _ _ w (value c (codes "OK") (not_four (codes "OK") (λ e. omega arith)) (ok_back c s))
written_back {c} (refuses n l h t) p w =
    search (arith, refusal_numbered, said_row, read_parameter-said_text, refusal_numbered n l h, said_row (refused n))
written_back {c} (tells asks of) p w =
    let back = kind_back of p w in
    value c p back.unrefused (if_no _ _ asks ∙ back.value)

pub reads_back : {c : Command} {m : Said} → CanSay c m → read_parameter c (said_bytes m) ≡ m
reads_back {c} {m} can = written_back can (said_bytes m) (said_is_written can)
