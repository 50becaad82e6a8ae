-- The law of each value on a line: its own text says it, what says it is read back, and what is read said it. The name
-- of a trait's law has to be in specs/, so these laws are here; no reader has to believe them.
-- Assumes nothing.
use Rattle.std.proofs.Common.{ℕ, ◌+◌, ◌≡◌, Bool, true, false, List, [], ◌∷◌, ◌++◌, length, take, drop}
use Rattle.std.proofs.Common.{refl, sym, ap, ◌∙◌, subst, arith, append_assoc}
use Rattle.std.specs.List.{list_all}
use Rattle.std.specs.Prelude.{Some, None, ◌&&◌, nat_le}
use Rattle.std.proofs.lemmas.Bool.{le-leb}
use Rattle.std.proofs.lemmas.Bool.Decides.{nat_tests}
use Rattle.std.proofs.lemmas.List.{take-append-drop}
use Rattle.std.proofs.lemmas.Option.{same_Some, some_pair_parts}
use Rattle.std.proofs.Math.Seq.{take-append_seam, drop-append_seam}
use Prim.Native.Char.{code}
use Rattle.text.specs.Words.{◌from◌to◌}
use Rattle.text.proofs.Choices.{if_yes, both, both_left, both_right}
use Rattle.numbers.specs.Decimal.{is_digit, digits, read_number, WritesNumber}
use Rattle.numbers.proofs.ReadBack.{writing_read, digits_written, read_written, read_below}
use Rattle.words.specs.Codec.{Codec, Plain, Ends, ◌>>=◌}
use Rattle.words.specs.Numerals.{is_numeral, figures, number_read}
use Rattle.words.specs.Powers.{power_code, powers, power_text, power_read, switch_code, switch_text, switch_read}
use Rattle.words.specs.Inputs.{is_input_text, source_named, input_named, is_input, input_text, source_digit, read_input}
use Rattle.words.specs.Inputs.{input_read, number_digit}
use Rattle.words.specs.Sources.{is_number_character, number_for, number_character}
use Rattle.words.specs.Lamps.{lamp_text, lamp_hours, is_lamp_hours, WritesLampHours, lamp_read}
use Rattle.words.specs.Muting.{halves_text, mutes_text, mutes_of, all_mutes, mutes_read}
use Rattle.words.specs.ErrorDigits.{is_error_digit, error_named, is_errors, errors_text, errors_read}
use Rattle.words.specs.ErrorDigits.{status_of, status_read}
use Rattle.words.specs.Classes.{class_code, classes, class_text, class_read}
use Rattle.words.specs.Refusing.{refusal_code, refusals, error_reply_text, error_reply_read}
use Rattle.words.specs.declared.class.ClassNumber.TheVariants.{One, Two}
use Rattle.words.specs.declared.errors.ErrorStatus.{ErrorStatus}
use Rattle.words.specs.declared.input.Input.{Input}
use Rattle.words.specs.declared.input.Source.{Source}
use Rattle.words.specs.declared.input.Source.TheVariants.{Rgb, Video, Digital, Storage, Network, Internal}
use Rattle.words.specs.declared.lamp.LampHours.{LampHours}
use Rattle.words.specs.declared.power.PowerStatus.TheVariants.{Off, On, Cooling, WarmUp}
use Rattle.words.specs.declared.error_reply.ErrorReply.TheVariants.{Undefined, OutOfParameter, Unavailable, Failure}
use Rattle.words.specs.Combinations.{bind_some, cond_is, counted_codec, named_codec}
use Rattle.words.specs.Combinations.{pair_back, pair_sound, past_codec, spelled_codec}

pub power_codec : Codec Ends (λ _. true) power_text (Plain (λ _. true) power_text) power_read
power_codec = named_codec power_code powers (elim [ Off ↦ refl | On ↦ refl | Cooling ↦ refl | WarmUp ↦ refl ])

pub switch_codec : Codec Ends (λ _. true) switch_text (Plain (λ _. true) switch_text) switch_read
switch_codec = named_codec switch_code (false ∷ true ∷ []) (elim [ false ↦ refl | true ↦ refl ])

pub class_codec : Codec Ends (λ _. true) class_text (Plain (λ _. true) class_text) class_read
class_codec = named_codec class_code classes (elim [ One ↦ refl | Two ↦ refl ])

pub refusal_codec : Codec Ends (λ _. true) error_reply_text (Plain (λ _. true) error_reply_text) error_reply_read
refusal_codec =
    past_codec "E" (past_codec "R" (past_codec "R" (named_codec refusal_code refusals
    (elim [ Undefined ↦ refl | OutOfParameter ↦ refl | Unavailable ↦ refl | Failure ↦ refl ]))))

mutes_each : (video audio : Bool) (rest : List ℕ)
    → mutes_read (halves_text video audio ++ rest) ≡ Some (mutes_of video audio, rest)
mutes_each true false rest = refl
mutes_each false true rest = refl
mutes_each true true rest = refl
mutes_each false false rest = refl

pub mutes_codec : Codec Ends (λ _. true) mutes_text (Plain (λ _. true) mutes_text) mutes_read
mutes_codec = spelled_codec mutes_text all_mutes (λ m rest. mutes_each m.video m.audio rest)

error_names : (d : ℕ) → is_error_digit d ≡ true → error_named (number_digit d) ≡ Some d
error_names d h = grind (arith, nat_tests)

error_named_lem : (b d : ℕ) → error_named b ≡ Some d → (is_error_digit d ≡ true) × (b ≡ number_digit d)
error_named_lem b d e = (grind (arith, nat_tests), grind (arith, nat_tests))

pub errors_codec : Codec Ends is_errors errors_text (Plain is_errors errors_text) errors_read
errors_codec = counted_codec is_error_digit number_digit error_named error_names error_named_lem 6

abbrev status_text : ErrorStatus → List ℕ
status_text e = errors_text e.digits

abbrev is_status : ErrorStatus → Bool
is_status e = is_errors e.digits

pub status_codec : Codec Ends is_status status_text (Plain is_status status_text) status_read
status_codec = record {
  own = λ e h. (h, refl);
  told = λ e t w. w.0;
  back = λ e t rest w h.
      ap (λ o. o >>= λ r. Some (status_of r.0, r.1)) (errors_codec.back e.digits t rest w h);
  sound = λ s e rest read.
      let (r, m, same) = bind_some (errors_read s) (λ r. Some (status_of r.0, r.1)) read in
      let (is_e, is_rest) = some_pair_parts (status_of r.0) e r.1 rest same in
      let (t, w, front) = errors_codec.sound s r.0 r.1 m in
      let digits = ap (λ e. e.digits) is_e in (
        t,
        (subst (λ ds. is_errors ds ≡ true) digits w.0, w.1 ∙ ap errors_text digits),
        front ∙ ap (λ u. t ++ u) is_rest,
      );
}

-- an input's source and number, from their characters
source_named_lem : (s : Source) → source_named (source_digit s) ≡ s
unfolding source_named
source_named_lem =
    elim [ Rgb ↦ refl | Video ↦ refl | Digital ↦ refl | Storage ↦ refl | Network ↦ refl | Internal ↦ refl ]

source_names : (s : Source) → (source_digit s from "1" to "6") ≡ true
source_names = elim [ Rgb ↦ refl | Video ↦ refl | Digital ↦ refl | Storage ↦ refl | Network ↦ refl | Internal ↦ refl ]

number_names : (n : ℕ) → nat_le 1 n && nat_le n 35 ≡ true → is_number_character (number_character n) ≡ true
unfolding number_character
number_names n h = grind (arith, nat_tests)

number_named : (n : ℕ) → nat_le 1 n && nat_le n 35 ≡ true → number_for (number_character n) ≡ n
unfolding number_for number_character
number_named n h = grind (arith, nat_tests)

input_back : (i : Input) (t rest : List ℕ) → Plain is_input input_text i t → Ends rest
    → input_read (t ++ rest) ≡ Some (i, rest)
unfolding read_input
input_back i t rest w h =
    ap (λ t. input_read (t ++ rest)) w.1
    ∙ ap (λ o. o >>= λ j. Some (j, rest))
    (if_yes (Some (input_named (source_digit i.source) (number_character i.number))) None
    (both (source_names i.source) (number_names i.number w.0))
    ∙ ap Some (λ k. record { source = source_named_lem i.source k; number = number_named i.number w.0 k }))

source_is : (a : ℕ) → (a from "1" to "6") ≡ true → a ≡ source_digit (source_named a)
unfolding source_named
source_is a h = grind (arith, nat_tests)

number_is : (b : ℕ) → is_number_character b ≡ true
    → (nat_le 1 (number_for b) && nat_le (number_for b) 35 ≡ true) × (b ≡ number_character (number_for b))
unfolding number_for number_character
number_is b h = (grind (arith, nat_tests), grind (arith, nat_tests))

input_of_two : (a b : ℕ) (i : Input) → read_input a b ≡ Some i → (is_input i ≡ true) × (a ∷ b ∷ [] ≡ input_text i)
unfolding read_input
input_of_two a b i e =
    let (h, f) = cond_is (is_input_text 2 a b) (Some (input_named a b)) e in
    let s = source_is a (both_left (a from "1" to "6") (is_number_character b) h) in
    let n = number_is b (both_right (a from "1" to "6") (is_number_character b) h) in
    subst (λ i. (is_input i ≡ true) × (a ∷ b ∷ [] ≡ input_text i)) (same_Some _ _ f)
    (n.0, (λ k. s k ∷ n.1 k ∷ []))

input_sound : (s : List ℕ) (i : Input) (rest : List ℕ) → input_read s ≡ Some (i, rest)
    → (t : List ℕ) × Plain is_input input_text i t × (s ≡ t ++ rest)
input_sound [] i rest e = cc
input_sound (a ∷ []) i rest e = cc
input_sound (a ∷ b ∷ s) i rest e =
    let (j, n, p) = bind_some (read_input a b) (λ j. Some (j, s)) e in
    let q = some_pair_parts j i s rest p in
    let o = input_of_two a b i (n ∙ ap Some q.0) in
    (input_text i, (o.0, refl), ap (λ t. t ++ s) o.1 ∙ ap (λ r. input_text i ++ r) q.1)

pub input_codec : Codec Ends is_input input_text (Plain is_input input_text) input_read
input_codec = record { own = λ i h. (h, refl); told = λ i t w. w.0; back = input_back; sound = input_sound }

-- digits end where a word ends
figures_back : (t rest : List ℕ) → list_all is_digit t ≡ true → Ends rest → figures (t ++ rest) ≡ length t
figures_back [] [] e h = refl
figures_back [] (b ∷ s) e h = ap (λ c. figures (c ∷ s)) h
figures_back (x ∷ t) rest e h =
    if_yes (1 + figures (t ++ rest)) 0 (both_left (is_digit x) (list_all is_digit t) e)
    ∙ omega (arith, figures_back t rest (both_right (is_digit x) (list_all is_digit t) e) h)

number_back : (n : ℕ) (t rest : List ℕ) → WritesNumber n t → Ends rest → number_read (t ++ rest) ≡ Some (n, rest)
number_back n t rest w h =
    ap (λ k. read_number (take k (t ++ rest)) >>= λ m. Some (m, drop k (t ++ rest))) (figures_back t rest w.figures h)
    ∙ ap (λ a. read_number a >>= λ m. Some (m, drop (length t) (t ++ rest))) (take-append_seam t rest)
    ∙ ap (λ b. read_number t >>= λ m. Some (m, b)) (drop-append_seam t rest)
    ∙ ap (λ v. v >>= λ m. Some (m, rest)) (writing_read t w)

number_sound : (s : List ℕ) (n : ℕ) (rest : List ℕ) → number_read s ≡ Some (n, rest)
    → (t : List ℕ) × WritesNumber n t × (s ≡ t ++ rest)
number_sound s n rest e =
    let t = take (figures s) s in
    let (m, v, p) = bind_some (read_number t) (λ m. Some (m, drop (figures s) s)) e in
    let q = some_pair_parts m n (drop (figures s) s) rest p in
    (t, read_written t n (v ∙ ap Some q.0), sym (take-append-drop (figures s) s) ∙ ap (λ r. t ++ r) q.1)

pub number_codec : Codec Ends is_numeral digits WritesNumber number_read
number_codec = record {
  own = λ n h. digits_written n (grind (arith, nat_tests));
  told = λ n t w. le-leb n 99999 (omega (arith, read_below t n (writing_read t w)));
  back = number_back;
  sound = number_sound;
}

lamp_back : (l : LampHours) (t rest : List ℕ) → WritesLampHours l t → Ends rest → lamp_read (t ++ rest) ≡ Some (l, rest)
lamp_back l t rest w h =
    ap (λ t. lamp_read (t ++ rest)) w.text
    ∙ ap lamp_read (append_assoc w.word (code " " ∷ switch_text l.lit) rest)
    ∙ pair_back lamp_hours number_codec (past_codec " " switch_codec) l.hours l.lit w.word
    (code " " ∷ switch_text l.lit) rest w.hours (refl, refl) refl h

lamp_sound : (s : List ℕ) (l : LampHours) (rest : List ℕ) → lamp_read s ≡ Some (l, rest)
    → (t : List ℕ) × WritesLampHours l t × (s ≡ t ++ rest)
lamp_sound s l rest e =
    let (n, on, a, b, wa, wb, k, f) =
    pair_sound lamp_hours number_codec (past_codec " " switch_codec) s l rest e in
    let writes : WritesLampHours (lamp_hours n on) (a ++ b) =
    record { word = a; hours = wa; text = ap (λ b. a ++ b) wb.1 } in
    (a ++ b, subst (λ l. WritesLampHours l (a ++ b)) k writes, f ∙ sym (append_assoc a b rest))

pub lamp_codec : Codec Ends is_lamp_hours lamp_text WritesLampHours lamp_read
lamp_codec = record {
  own = λ l h. record { word = digits l.hours; hours = number_codec.own l.hours h; text = refl };
  told = λ l t w. number_codec.told l.hours w.word w.hours;
  back = lamp_back;
  sound = lamp_sound;
}
