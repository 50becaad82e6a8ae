-- Whatever bytes come, what is read of them is an answer that the command can have, in the bytes that write it; or
-- nothing.
-- Assumes nothing.
use Rattle.std.proofs.Common.{ℕ, ◌≡◌, ◌≤◌, Bool, true, false, List, [], ◌∷◌, ◌++◌, length, refl, sym, ◌∙◌, arith, ◌==◌}
use Rattle.std.proofs.Common.{nat_le, codes, Option, Some, None, ◌&&◌, if◌then◌else◌}
use Rattle.std.specs.List.{list_all}
use Rattle.std.proofs.lemmas.Bool.{eqb-true, leb-true}
use Rattle.std.proofs.lemmas.List.{append-nil}
use Prim.Native.Char.{code}
use Rattle.text.proofs.Choices.{if_by, both_left, both_right}
use Rattle.text.proofs.Sameness.{same_is}
use Rattle.words.specs.Codec.{Plain, whole_value}
use Rattle.words.specs.Combinations.{whole_says, list_says}
use Rattle.words.specs.ErrorDigits.{is_error_digit, errors_read}
use Rattle.words.specs.Classes.{class_read}
use Rattle.words.specs.Inputs.{is_input, input_text, input_read}
use Rattle.words.specs.Joined.{list_text, JoinedBy, is_list, list_read}
use Rattle.words.specs.Lamps.{is_lamp_hours, lamp_read}
use Rattle.words.specs.Laws.{power_codec, input_codec, mutes_codec, errors_codec, lamp_codec, class_codec, switch_codec}
use Rattle.words.specs.Muting.{mutes_read}
use Rattle.words.specs.Powers.{power_read, switch_read}
use Rattle.words.specs.Refusing.{error_reply_digit, error_reply_read}
use Rattle.words.specs.declared.input.Input.{Input}
use Rattle.words.specs.declared.error_reply.ErrorReply.{ErrorReply}
use Rattle.pjlink.specs.declared.command.Command.{Command}
use Rattle.pjlink.specs.declared.body.AnswerKind.{AnswerKind}
use Rattle.pjlink.specs.declared.body.AnswerKind.TheVariants as kind
use Rattle.pjlink.specs.Bodies.{kind_of}
use Rattle.pjlink.specs.Commands.{body_of}
use Rattle.pjlink.specs.Said.{Said, power_is, chosen_is, mutes_are, errors_are, lamps_are, inputs_are}
use Rattle.pjlink.specs.Said.{class_is, freeze_is, nothing, said_text}
use Rattle.pjlink.specs.Carried.{lamps_carried, inputs_carried}
use Rattle.pjlink.specs.CanSay.{is_set, is_refusal_to, is_text_by}
use Rattle.pjlink.specs.CanSay.{CanSay, done, refuses, tells, IsOfKind, power, input, mutes, errors, lamps, inputs}
use Rattle.pjlink.specs.CanSay.{text, class_said, freeze}
use Rattle.pjlink.specs.Reading.{said_or, read_ok, read_queried, read_value, refusal_or, read_parameter}
use Rattle.pjlink.specs.Writings.{Writes, Says}
use Rattle.words.proofs.Refusals.{refusal_is}
use Rattle.pjlink.proofs.Written.{of_kind_is_written, row_is_written}

pub data CanRead (c : Command) (p : List ℕ) : Said → Type 0 where
  answer : {m : Said} → Says c m p → CanRead c p m
  no_answer : CanRead c p nothing

-- the same of a kind
data KindRead (k : AnswerKind) (p : List ℕ) : Said → Type 0 where
  of_kind : {m : Said} → IsOfKind k m → Writes m p → KindRead k p m
  none_of_kind : KindRead k p nothing

by_row : {c : Command} {p : List ℕ} {m : Said} → CanSay c m → p ≡ said_text m → CanRead c p m
by_row can e = answer (record { can = can; written = row_is_written can e })

by_kind : {k : AnswerKind} {p : List ℕ} {m : Said} → IsOfKind k m → p ≡ said_text m → KindRead k p m
by_kind of e = of_kind of (of_kind_is_written of e)

-- what is read where a test holds
guarded : {c : Command} {p : List ℕ} {m : Said} (t : Bool) → (t ≡ true → CanRead c p m)
    → CanRead c p (if t then m else nothing)
guarded {c} {p} t reads = if_by (CanRead c p) t reads (λ e. no_answer)

-- what is read where a codec finds something
found : {A : Type 0} {k : AnswerKind} {p : List ℕ} (says : A → Said) (o : Option A)
    → ((x : A) → o ≡ Some x → KindRead k p (says x))
    → KindRead k p (said_or says o)
found says None reads = none_of_kind
found says (Some x) reads = reads x refl

-- a list of a codec is one to n things, each legal
module _ {A : Type 0} (legal : A → Bool) (n : ℕ) (xs : List A) (h : is_list legal n xs ≡ true) where
  sizes : nat_le 1 (length xs) && nat_le (length xs) n ≡ true
  sizes = both_left (nat_le 1 (length xs) && nat_le (length xs) n) (list_all legal xs) h

  some : 1 ≤ length xs
  some = leb-true 1 (length xs) (both_left (nat_le 1 (length xs)) (nat_le (length xs) n) sizes)

  few : length xs ≤ n
  few = leb-true (length xs) n (both_right (nat_le 1 (length xs)) (nat_le (length xs) n) sizes)

  each : list_all legal xs ≡ true
  each = both_right (nat_le 1 (length xs) && nat_le (length xs) n) (list_all legal xs) h

-- inputs have one writing each
plain_list : (is : List Input) (p : List ℕ) → JoinedBy (Plain is_input input_text) is p → p ≡ list_text input_text is
plain_list [] p w = absurd w
plain_list (i ∷ []) p w = w.1 ∙ sym (append-nil (input_text i))
plain_list (i ∷ j ∷ is) p (t, rest, w, more, e) =
    e ∙ (λ k. w.1 k ++ code " " ∷ plain_list (j ∷ is) rest more k)

kind_sound : (k : AnswerKind) (p : List ℕ) → KindRead k p (read_queried k p)
kind_sound kind.Power p =
    found power_is (whole_value power_read p) (λ q e. by_kind (power q) ((whole_says power_codec).sound p q e).1)
kind_sound kind.Input p =
    found chosen_is (whole_value input_read p) (λ i e.
    let w = (whole_says input_codec).sound p i e in
    by_kind (input i w.0) w.1)
kind_sound kind.Mutes p =
    found (λ m. mutes_are m.video m.audio) (whole_value mutes_read p)
    (λ m e. by_kind (mutes m.video m.audio) ((whole_says mutes_codec).sound p m e).1)
kind_sound kind.Errors p =
    found errors_are (whole_value errors_read p) (λ ds e.
    let w = (whole_says errors_codec).sound p ds e in
    by_kind (errors ds (eqb-true (length ds) 6 (both_left (length ds == 6) (list_all is_error_digit ds) w.0))
    (both_right (length ds == 6) (list_all is_error_digit ds) w.0)) w.1)
kind_sound kind.Lamps p =
    found lamps_are (list_read lamp_read lamps_carried p) (λ ls e.
    let it = list_says lamp_codec lamps_carried in
    let w = it.sound p ls e in
    let h = it.told ls p w in
    of_kind
    (lamps ls (some is_lamp_hours lamps_carried ls h) (few is_lamp_hours lamps_carried ls h)
    (each is_lamp_hours lamps_carried ls h))
    w.1)
kind_sound kind.Inputs p =
    found inputs_are (list_read input_read inputs_carried p) (λ is e.
    let it = list_says input_codec inputs_carried in
    let w = it.sound p is e in
    let h = it.told is p w in
    by_kind
    (inputs is (some is_input inputs_carried is h) (few is_input inputs_carried is h)
    (each is_input inputs_carried is h))
    (plain_list is p w.1))
kind_sound (kind.Text r) p =
    if_by (KindRead (kind.Text r) p) (is_text_by r p) (λ e. by_kind (text r p e) refl) (λ e. none_of_kind)
kind_sound kind.Class p =
    found class_is (whole_value class_read p) (λ k e. by_kind (class_said k) ((whole_says class_codec).sound p k e).1)
kind_sound kind.Freeze p =
    found freeze_is (whole_value switch_read p) (λ on e. by_kind (freeze on) ((whole_says switch_codec).sound p on e).1)
kind_sound kind.Nothing p = none_of_kind

queried_sound : (c : Command) (p : List ℕ) → is_set c ≡ false → {m : Said} → KindRead (kind_of (body_of c)) p m
    → CanRead c p m
queried_sound c p asks (of_kind of w) = answer (record { can = tells asks of; written = w })
queried_sound c p asks none_of_kind = no_answer

ok_sound : (c : Command) (p : List ℕ) → is_set c ≡ true → CanRead c p (read_ok p)
ok_sound c p set = guarded _ (λ e. by_row (done set) (same_is p (codes "OK") e))

value_sound : (c : Command) (p : List ℕ) → CanRead c p (read_value c p)
value_sound c p =
    if_by (CanRead c p) (is_set c) (λ set. ok_sound c p set)
    (λ asks. queried_sound c p asks (kind_sound (kind_of (body_of c)) p))

refusal_range : (r : ErrorReply) → (1 ≤ error_reply_digit r) × (error_reply_digit r ≤ 4)
refusal_range r = grind arith

by_refusal : (c : Command) (p : List ℕ) (o : Option ErrorReply) → whole_value error_reply_read p ≡ o
    → CanRead c p (refusal_or c o (read_value c p))
by_refusal c p None e = value_sound c p
by_refusal c p (Some r) e =
    let n = refusal_range r in
    guarded (is_refusal_to c (error_reply_digit r)) (λ t. by_row (refuses (error_reply_digit r) n.0 n.1 t) (refusal_is
    p r e))

pub read_sound : (c : Command) (p : List ℕ) → CanRead c p (read_parameter c p)
unfolding read_parameter
read_sound c p = by_refusal c p (whole_value error_reply_read p) refl
