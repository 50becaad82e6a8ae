-- Every answer of a legal projector is one that its command can have (`CanSay`), and so it fits a reply.
--   Fits m      the parameter that says m has at most 128 bytes and no CR
-- Assumes nothing.
use Rattle.std.specs.List.{list_all}
use Rattle.std.proofs.Common.{ℕ, ◌+◌, ◌*◌, ◌/◌, ◌<◌, ◌≤◌, ◌≡◌, refl, sym, ap, ◌∙◌, Bool, true, false, not, ◌||◌, arith}
use Rattle.std.proofs.Common.{length, slice_index_or, take, leb-true, le-leb, Option, unwrap_or, Ok, Err}
use Rattle.std.proofs.lemmas.Bool.{false≢true}
use Rattle.std.proofs.Math.Bool.{or-true}
use Rattle.text.proofs.Scanning.{list_all_by_place}
use Rattle.words.specs.Bytes.{is_cr_free}
use Rattle.words.specs.Inputs.{is_input}
use Rattle.pjlink.specs.declared.body.Body.{Body}
use Rattle.pjlink.specs.declared.body.AnswerKind.TheVariants as kind
use Rattle.pjlink.specs.declared.body.TextRule.TheVariants as rule
use Rattle.pjlink.specs.Bodies.{kind_of}
use Rattle.pjlink.specs.declared.command.Command.{Command}
use Rattle.pjlink.specs.declared.command.Command.TheVariants.{PowerSet, InputSet, MuteSet, Query, FreezeSet}
use Rattle.pjlink.specs.declared.command.Command.TheVariants.{VolumeStep, NameQuery}
use Rattle.words.proofs.InputsReadBack.{is_input-input_named}
use Rattle.words.proofs.SourcesFollowed.{named_stands}
use Rattle.words.specs.declared.input.Input.{Input}
use Rattle.pjlink.specs.Requests.{Request}
use Rattle.pjlink.specs.declared.request.Unasked.TheVariants.{Unlisted, UnknownBody}
use Rattle.pjlink.specs.Said.{Said, said_bytes, said_most, refused, errors_are, lamps_are}
use Rattle.pjlink.specs.Carried.{inputs_carried}
use Rattle.pjlink.specs.CanSay.{has_own_parameter, is_refusal_to, CanSay, done, refuses, tells}
use Rattle.pjlink.specs.CanSay.{IsOfKind, power, input, mutes, errors, lamps, inputs, text, class_said, freeze}
use Rattle.words.specs.Lamps.{is_lamp_hours}
use Rattle.pjlink.proofs.SaidPlain.{said_within_most, said_plain}
use Rattle.record.specs.Limits.{input_room, lamps_most, lamp_limit, is_lit}
use Rattle.record.specs.Rules.{is_lamp, is_lamps, is_inputs}
use Rattle.record.specs.Legal.{is_settings, is_own}
use Rattle.record.specs.declared.types.Settings.{Settings}
use Rattle.record.specs.declared.types.Own.{Own}
use Rattle.record.proofs.Kept.{kept_length}
use Rattle.record.proofs.Rules.{errors_long, list_all-is_at_most, lamps_within}
use Rattle.record.proofs.SettingsTold.{input_count_low, input_count_high, input_at, serial_told, version_told}
use Rattle.record.proofs.NamesTold.{name_kept}
use Rattle.record.specs.Facts.{IsOwn, IsSettings}
use Rattle.record.proofs.FactsTold.{own_is, settings_is}
use Rattle.meaning.specs.SetUpInputs.{no_input, pairs_of, inputs_of, listed_index}
use Rattle.meaning.specs.Rules.{is_undefined, is_unlisted}
use Rattle.meaning.proofs.LampsSaid.{length-lamps_said, list_all-lamps_said}
use Rattle.meaning.specs.Meaning.{chosen_of, lamp_said, lamps_of, query_answer, table_answer, request_answer}
use Rattle.meaning.specs.Meaning.{answer_for}
use Rattle.meaning.proofs.InputsByPlace.{inputs_counted, input_in_use}
use Rattle.record.specs.Views.{marks_seen}
use Rattle.meaning.proofs.Cases.{Passes, meant_by}

pub record Fits (m : Said) : Type 0 where
  pub short : length (said_bytes m) ≤ said_most
  pub has_no_cr : is_cr_free (said_bytes m) ≡ true

fits : {c : Command} {m : Said} → CanSay c m → Fits m
fits w = record { short = said_within_most w; has_no_cr = (said_plain w).1 }

-- a set may be refused by any number
refusal_fits : (n : ℕ) → 1 ≤ n → n ≤ 4 → Fits (refused n)
refusal_fits n low high = fits {c = PowerSet true} (refuses n low high refl)

-- the inputs of a legal set-up
module _ (s : Settings) (t : IsSettings s) where
  pub length-inputs_of : length (inputs_of s) ≡ s.input_count
  length-inputs_of = inputs_counted (pairs_of s) s.input_count
      (kept_length input_room (is_inputs s.class_number) _ _ t.inputs)

  pub is_input-slice_index_or : (k : ℕ) → k < s.input_count → is_input (slice_index_or (inputs_of s) k no_input) ≡ true
  is_input-slice_index_or k h =
      let room : 2 * k + 1 < length s.inputs = omega (arith, t.inputs.long, t.inputs.inside) in
      let a = slice_index_or s.inputs (2 * k) 0 in
      let b = slice_index_or s.inputs (2 * k + 1) 0 in
      let named = input_at s t k h in
      ap is_input (input_in_use s.inputs s.input_count k h room no_input)
      ∙ ap (λ (m : Option Input). is_input (unwrap_or m no_input)) (named_stands a b 2 named)
      ∙ is_input-input_named 2 a b named

  pub list_all-inputs_of : list_all is_input (inputs_of s) ≡ true
  list_all-inputs_of =
      list_all_by_place is_input no_input (inputs_of s)
      (λ k h. is_input-slice_index_or k (omega (arith, length-inputs_of)))

-- a lamp within the limit has hours of five digits
is_lamp_hours-lamp_said : (lit : Bool) (x : ℕ) → is_lamp x ≡ true → is_lamp_hours (lamp_said lit x) ≡ true
is_lamp_hours-lamp_said lit x e = le-leb (x / 3600) 99999 (omega (arith, leb-true x lamp_limit e))

-- ERRn but ERR2 may refuse any command, ERR2 one with a parameter of its own
any_refused : (c : Command) → (has_own_parameter c || true) ≡ true
any_refused c = or-true (has_own_parameter c)

set_refused : (s : Settings) (c : Command) → is_unlisted s c ≡ true → is_refusal_to c 2 ≡ true
set_refused s c h = grind arith

module _ (s : Settings) (o : Own) (settings : is_settings s ≡ true) (own : is_own s o ≡ true) where
  abbrev set_up : IsSettings s
  set_up = (settings_is s).0 settings

  abbrev kept : IsOwn s o
  kept = (own_is s o).0 own

  length-lamps_of : length (lamps_of s o) ≡ s.lamp_count
  length-lamps_of =
      length-lamps_said (is_lit o.power) (marks_seen o) (take s.lamp_count o.lamps)
      ∙ kept_length lamps_most is_lamps _ _ kept.lamps

  is_input-chosen_of : is_input (chosen_of s o) ≡ true
  is_input-chosen_of = is_input-slice_index_or s set_up o.chosen kept.chosen

  inputs_some : 1 ≤ length (inputs_of s)
  inputs_some = omega (arith, length-inputs_of s set_up, input_count_low s set_up)

  inputs_few : length (inputs_of s) ≤ inputs_carried
  inputs_few = omega (arith, length-inputs_of s set_up, input_count_high s set_up)

  lamps_fit : 1 ≤ s.lamp_count → IsOfKind kind.Lamps (lamps_are (lamps_of s o))
  lamps_fit some =
      lamps (lamps_of s o) (omega (arith, length-lamps_of, some)) (omega (arith, length-lamps_of, set_up.lamps))
      (list_all-lamps_said (is_lit o.power) is_lamp is_lamp_hours is_lamp_hours-lamp_said (marks_seen o)
      (take s.lamp_count o.lamps)
      (lamps_within _ kept.lamps.follows))

  errors_fit : IsOfKind kind.Errors (errors_are o.errors)
  errors_fit = errors o.errors (errors_long _ kept.errors) (list_all-is_at_most _ kept.errors)

  -- the value of each body is one of its kind
  is_of_kind : (b : Body) → is_undefined s (Ok (Query b)) ≡ false → IsOfKind (kind_of b) (query_answer s o b)
  is_of_kind b e =
      grind (
        arith,
        power,
        input,
        mutes,
        errors_fit,
        lamps_fit,
        inputs,
        text,
        class_said,
        freeze,
        is_input-chosen_of,
        inputs_some,
        inputs_few,
        list_all-inputs_of,
        set_up,
        serial_told,
        version_told,
      )

  told_can_be_said : (c : Command) → is_undefined s (Ok c) ≡ false → CanSay c (table_answer s o c)
  told_can_be_said (PowerSet wanted) e = done refl
  told_can_be_said (InputSet k i) e = done refl
  told_can_be_said (MuteSet half wanted) e = done refl
  told_can_be_said (FreezeSet wanted) e = done refl
  told_can_be_said (VolumeStep v up) e = done refl
  told_can_be_said (NameQuery i) e =
      tells refl (text rule.InputName _ (name_kept _ s.names set_up.names (listed_index s i)).follows)
  told_can_be_said (Query b) e = tells refl (is_of_kind b e)

  pub meant_can_be_said : (c : Command) → CanSay c (answer_for s o (Ok c))
  meant_can_be_said c =
      meant_by s o (Ok c) (CanSay c)
      (λ a. refuses 1 (omega arith) (omega arith) (any_refused c))
      (λ a b. refuses 2 (omega arith) (omega arith) (set_refused s c b))
      (λ a b f. refuses 4 (omega arith) (omega arith) (any_refused c))
      (λ a b f u. refuses 3 (omega arith) (omega arith) (any_refused c))
      (λ p. told_can_be_said c p.defined)

  pub meant_fits : (r : Request) → Fits (answer_for s o r)
  meant_fits r =
      meant_by s o r Fits (λ a. refusal_fits 1 (omega arith) (omega arith))
      (λ a b. refusal_fits 2 (omega arith) (omega arith)) (λ a b c. refusal_fits 4 (omega arith) (omega arith))
      (λ a b c d. refusal_fits 3 (omega arith) (omega arith)) (passed_fits r)
    where
      passed_fits : (r : Request) → Passes s o r → Fits (request_answer s o r)
      passed_fits (Ok c) p = fits (told_can_be_said c p.defined)
      passed_fits (Err (Unlisted b)) p = absurd (false≢true (sym p.defined ∙ ap not p.listed))
      passed_fits (Err UnknownBody) p = absurd (false≢true (sym p.defined))
