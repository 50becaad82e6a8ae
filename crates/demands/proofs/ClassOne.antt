-- A Class 1 set-up answers by Class 1 alone (RULES, Class 2): it holds of any board that meets the demands. A line of
-- the form is of Class 1, and names a body by the rows of Class 1; an input of Class 2 is in no Class 1 set-up, so that
-- it is ERR2, known or not. No reply is longer than 103 bytes (RULES, Inputs), eight around a parameter of at most 95:
-- only an input's name is longer, and a Class 1 set-up has none.
-- Assumes nothing.
use Rattle.std.proofs.Common.{ℕ, ◌≤◌, ◌<◌, ◌≡◌, refl, sym, ap, subst, ◌∙◌, Bool, true, false, ◌||◌, List, [], ◌∷◌}
use Rattle.std.proofs.Common.{⊎_elim, arith, length, slice_index_or, length-append, ◌*◌, ◌+◌, ◌++◌, ltb-true, eqb-true}
use Rattle.std.proofs.Common.{codes, Ok, Err, Option, unwrap_or}
use Rattle.std.proofs.lemmas.Bool.{false≢true, not-false}
use Rattle.std.proofs.Math.Bool.{or-true}
use Rattle.std.proofs.Math.ListN.{get_or-eq_default}
use Prim.Native.Char.{code}
use Rattle.text.proofs.Orders.{le_or_lt}
use Rattle.text.proofs.Scanning.{list_all_at}
use Rattle.pjlink.specs.Bodies.{kind_of, has_set, has_query}
use Rattle.pjlink.specs.declared.body.AnswerKind.{AnswerKind}
use Rattle.pjlink.specs.declared.body.AnswerKind.TheVariants as kind
use Rattle.pjlink.specs.declared.body.TextRule.TheVariants as rule
use Rattle.pjlink.specs.Commands.{body_of}
use Rattle.pjlink.specs.declared.body.Body.{Body}
use Rattle.pjlink.specs.declared.command.Command.{Command}
use Rattle.pjlink.specs.declared.command.Command.TheVariants.{PowerSet, Query}
use Rattle.words.proofs.TextsTold.{name_long, info_long}
use Rattle.pjlink.specs.Requests.{Request, request_of}
use Rattle.pjlink.specs.Said.{Said, said_bytes, bytes_most, refused}
use Rattle.pjlink.specs.CanSay.{CanSay, done, refuses, tells, IsOfKind}
use Rattle.pjlink.proofs.SaidPlain.{said_long, text_said}
use Rattle.record.specs.Limits.{phase_awaiting, phase_open}
use Rattle.record.specs.Record.{blank_name}
use Rattle.record.specs.Legal.{is_settings, is_own, is_legal}
use Rattle.record.specs.Places.{connection_at}
use Rattle.record.specs.declared.types.Settings.{Settings}
use Rattle.record.specs.declared.types.Own.{Own}
use Rattle.record.specs.declared.types.CollectedLine.{CollectedLine}
use Rattle.record.specs.declared.types.Connection.{Connection}
use Rattle.record.specs.declared.types.Device.{Device}
use Rattle.record.proofs.Rules.{text_most}
use Rattle.record.proofs.LegalTold.{legal_settings, legal_own}
use Rattle.meaning.specs.Rules.{is_undefined, is_out_of_parameter}
use Rattle.meaning.specs.SetUpInputs.{listed_index, no_input, inputs_of, is_listed}
use Rattle.meaning.specs.Meaning.{name_bytes, request_answer, answer_for, after_request}
use Rattle.meaning.proofs.CanBeSaid.{meant_can_be_said, length-inputs_of}
use Rattle.meaning.proofs.Cases.{Passes, meant_by, err1, err2, done_by}
use Rattle.device.specs.Answering.{line_asks, line_answer, line_swallowed}
use Rattle.device.specs.Receiving.{line_ended, taken_in}
use Rattle.device.specs.Calls.{received_at, reply_room}
use Rattle.device.proofs.Cases.{received_by}
use Rattle.device.proofs.LineCases.{answered_by, ended_by, taken_by}
use Rattle.demands.specs.ClassOne.{AreOfOthers, asked_beside, line_beside, answer_beside, longest_of_class_1, OfClass1}
use Rattle.demands.specs.ClassOne.{ClassOneAlone}
use Rattle.record.proofs.FactsTold.{settings_is, fills_told}
use Rattle.text.specs.Words.{◌is◌}
use Rattle.text.proofs.Choices.{if_yes, if_no, if_all, if_by}
use Rattle.words.specs.Bytes.{◌at◌, is_cr_free, command_most}
use Rattle.words.specs.Inputs.{is_input_text, input_named, input_text}
use Rattle.words.specs.declared.input.Input.{Input}
use Rattle.pjlink.specs.Forms.{head_body, command_parameter, is_command_form, class_of_byte, reply_line}
use Rattle.words.proofs.InputsReadBack.{named_text}
use Rattle.words.proofs.SourcesFollowed.{named_stands}
use Rattle.pjlink.specs.declared.body.BodyRow.{BodyRow}
use Rattle.pjlink.specs.RowsOfClass.{is_input_of_class, is_foreign, known_in_class}
use Rattle.pjlink.specs.declared.request.Unasked.TheVariants.{Unlisted}
use Rattle.pjlink.proofs.RowsOfClass.{asked_by_class, class_byte_1}
use Rattle.device.specs.Answering.{Answered}
use Rattle.record.proofs.SettingsTold.{input_of_class}
use Rattle.meaning.proofs.InputsByPlace.{found_at_place, input_in_use}
use Rattle.ours.specs.Board.{Board}
use Rattle.demands.specs.SpeaksPjlink.{BetweenLines, AnsweredAs, answer_to, digest_for}
use Rattle.demands.specs.Calls.{Gave, receives}
use Rattle.demands.specs.TwoBoards.{MeetsDemands}
use Rattle.demands.proofs.TwoBoards.{gave_as}

abbrev parameter_of_class_1 : ℕ
parameter_of_class_1 = 95

-- a body that is set, or asked by `?`, is another than that of an input's name
abbrev is_plain : Body → Bool
is_plain b = has_set b || has_query b

-- such a body has an answer of another kind, or none
abbrev is_other : AnswerKind → Bool
is_other (kind.Text rule.InputName) = false
is_other answer = true

other_of_plain : (b : Body) → is_plain b ≡ true → is_other (kind_of b) ≡ true
other_of_plain b p = grind arith

-- what an answer of its kind has at most
kind_short : {k : AnswerKind} {m : Said} → IsOfKind k m → is_other k ≡ true → bytes_most m ≤ parameter_of_class_1
kind_short of h = grind (arith, name_long, info_long)

most_short : {c : Command} {m : Said} → CanSay c m → is_plain (body_of c) ≡ true → bytes_most m ≤ parameter_of_class_1
most_short (done set) p = omega arith
most_short (refuses n low high t) p = omega arith
most_short {c} (tells asks of) p = kind_short of (other_of_plain (body_of c) p)

said_short : {c : Command} {m : Said} → CanSay c m → is_plain (body_of c) ≡ true →
    length (said_bytes m) ≤ parameter_of_class_1
said_short can p = omega (arith, said_long can, most_short can p)

refused_short : (n : ℕ) → 1 ≤ n → n ≤ 4 → length (said_bytes (refused n)) ≤ parameter_of_class_1
refused_short n l h = said_short (refuses {c = PowerSet true} n l h refl) refl

module _ (s : Settings) (o : Own) (settings : is_settings s ≡ true) (own : is_own s o ≡ true)
    (one : s.class_number ≡ 1) where
  abbrev Short : Said → Type 0
  Short m = length (said_bytes m) ≤ parameter_of_class_1

  -- where no rule refuses is left to show
  by_rules : (r : Request) → (Passes s o r → Short (request_answer s o r)) → Short (answer_for s o r)
  by_rules r passed =
      meant_by s o r Short (λ a. refused_short 1 (omega arith) (omega arith))
      (λ a b. refused_short 2 (omega arith) (omega arith)) (λ a b c. refused_short 4 (omega arith) (omega arith))
      (λ a b c d. refused_short 3 (omega arith) (omega arith)) passed

  plain_short : (c : Command) → is_plain (body_of c) ≡ true → Short (answer_for s o (Ok c))
  plain_short c plain = said_short (meant_can_be_said s o settings own c) plain

  query_short : (b : Body) (t : Bool) → has_query b ≡ t → Short (answer_for s o (Ok (Query b)))
  query_short b t e = grind (arith, plain_short, or-true, err1, refused_short)

  -- a set-up of Class 1 names no input
  nameless : (k : ℕ) → length (name_bytes (slice_index_or s.names k blank_name)) ≤ 0
  nameless k = grind (arith, ⊎_elim, le_or_lt, get_or-eq_default, settings_is, list_all_at, fills_told, text_most)

  meant_short : (r : Request) → Short (answer_for s o r)
  meant_short r = grind (arith, plain_short, query_short, by_rules, nameless, text_said, not-false)

  answered_short : (l : List ℕ) → length (line_answer s o l).reply ≤ longest_of_class_1
  answered_short l =
      let p = said_bytes (answer_for s o (line_asks l)) in
      answered_by s o l (λ a. length a.reply ≤ longest_of_class_1)
      (λ form. omega (arith, meant_short (line_asks l), length-append p (code "\r" ∷ []))) (λ none. omega arith)

  module _ (c : Connection) where
    ended_short : (l : CollectedLine) → length (line_ended s o c l).reply ≤ longest_of_class_1
    ended_short l =
        ended_by s o c l (λ e. length e.reply ≤ longest_of_class_1) (λ p m. omega arith) (λ p m. answered_short _)
        (λ p m. answered_short _) (λ p m. omega arith) (λ p q. omega arith)

    taken_short : (bs : List ℕ) → length (taken_in s o c bs).ended.reply ≤ longest_of_class_1
    taken_short bs =
        taken_by s o c bs (λ t. length t.ended.reply ≤ longest_of_class_1) (λ e. ended_short _) (λ e. omega arith)

-- on any input, refused or not
pub short_of_class_1 : (d : Device) → d.settings.class_number ≡ 1 → (p : ℕ) (bs : List ℕ) (room : ℕ)
    → length (received_at d p bs room).bytes ≤ longest_of_class_1
short_of_class_1 d one p bs room =
    received_by d p bs room (λ r. length r.bytes ≤ longest_of_class_1) (λ n z. omega arith)
    (λ h s t c. taken_short d.settings d.own (legal_settings d h) (legal_own d h) one (connection_at d p) bs)

-- ---- what is listed

-- an input that is listed is of the set-up's class
module _ (s : Settings) (settings : is_settings s ≡ true) (i : Input) where
  listed_in_class : is_listed s i ≡ true → is_input_of_class s.class_number i ≡ true
  listed_in_class listed =
      let told = (settings_is s).0 settings in
      let k = listed_index s i in
      let below = ltb-true k s.input_count listed in
      let room : 2 * k + 1 < length s.inputs = omega (arith, told.inputs.long, told.inputs.inside) in
      let x = s.inputs at (2 * k) in
      let y = s.inputs at (2 * k + 1) in
      let there = input_of_class s told k below in
      let same : input_named x y ≡ i
      = ap (λ (m : Option Input). unwrap_or m no_input) (sym (named_stands x y s.class_number there))
      ∙ sym (input_in_use s.inputs s.input_count k below room no_input)
      ∙ found_at_place i no_input (inputs_of s) (omega (arith, length-inputs_of s told)) in
      let text : input_text i ≡ x ∷ y ∷ [] = ap input_text (sym same) ∙ named_text s.class_number x y there in
      (λ j. is_input_text s.class_number (text j at 0) (text j at 1)) ∙ there

  unlisted : is_input_of_class s.class_number i ≡ false → is_listed s i ≡ false
  unlisted foreign = grind (arith, foreign, listed_in_class)

-- ---- what is meant and done

module _ (s : Settings) (o : Own) where
  abbrev Same : Request → Request → Type 0
  Same r q = (answer_for s o r ≡ answer_for s o q) × (after_request s o r ≡ after_request s o q)

  module _ (r : Request) (defined : is_undefined s r ≡ false) (out : is_out_of_parameter s r ≡ true) where
    nothing_done : after_request s o r ≡ o
    nothing_done = done_by s o r (λ k. k ≡ o) refl (λ p. absurd (false≢true (sym p.listed ∙ out)))

  module _ (settings : is_settings s ≡ true) (one : s.class_number ≡ 1) where
    -- ERR2 either way
    foreign_same : (c : Command) → is_foreign 1 c ≡ true → Same (Ok c) (Err (Unlisted (body_of c)))
    foreign_same c foreign = grind (arith, unlisted, err2, nothing_done)

    within_same : (r : Request) → Same r (known_in_class 1 r)
    within_same (Ok c) = if_by (Same (Ok c)) (is_foreign 1 c) (foreign_same c) (λ e. (refl, refl))
    within_same (Err e) = (refl, refl)

    module _ (more : List BodyRow) (others : AreOfOthers more) (l : List ℕ) where
      asks_beside : l at 1 ≡ code "1" → Same (line_asks l) (asked_beside more l)
      asks_beside byte =
          let q = asked_beside more l in
          subst (λ (h : ℕ). Same (request_of (class_of_byte h) (head_body l) (command_parameter l)) q) (sym byte)
          (subst (Same (request_of 1 (head_body l) (command_parameter l)))
          (sym (asked_by_class 1 (head_body l) (command_parameter l) more others))
          (within_same (request_of 1 (head_body l) (command_parameter l))))

      line_as_beside : line_answer s o l ≡ line_beside more s o l
      line_as_beside =
          answered_by s o l (λ a. a ≡ line_beside more s o l)
          (λ form.
          let form_1 = ap (λ (k : ℕ). is_command_form k l) (sym one) ∙ form in
          let byte = class_byte_1 l form_1 in
          let same = asks_beside byte in
          (λ i. record {
            own = same.1 i;
            reply = reply_line (byte i) (head_body l) (said_bytes (same.0 i));
          })
          ∙ sym (if_yes _ (line_swallowed o) form_1))
          (λ none. sym (if_no _ (line_swallowed o) (ap (λ (k : ℕ). is_command_form k l) (sym one) ∙ none)))

-- ---- on the board

module _ (d : Device) (one : d.settings.class_number ≡ 1) (l : List ℕ) where
  answer_as_beside : (more : List BodyRow) → AreOfOthers more → is_legal d ≡ true → answer_to d l
      ≡ answer_beside more d l
  answer_as_beside more others legal = grind (arith, line_as_beside, legal_settings)

  class_2_no_form : (l at 1 is "2") ≡ true → answer_beside [] d l ≡ line_swallowed d.own
  class_2_no_form two = grind (arith, if_all, class_byte_1, eqb-true)

module _ {R : Type 0} (B : Board R) (k : MeetsDemands B) where
  module _ (d : R) (p : ℕ) (l m : List ℕ) (one : OfClass1 B d) (plain : is_cr_free l ≡ true)
      (enough : reply_room ≤ length m)
    where
      module _ (more : List BodyRow) (others : AreOfOthers more) where
        answers : BetweenLines phase_open (B.shows d) p
            → let bs = l ++ codes "\r" in AnsweredAs B d p bs (answer_beside more (B.shows d) l) (B.receive d p bs m)
        answers between = grind (arith, answer_as_beside, k.speaks_pjlink.answers)

        answers_led : BetweenLines phase_awaiting (B.shows d) p → length l ≤ command_most
            → let bs = digest_for (B.shows d) p ++ l ++ codes "\r" in
            AnsweredAs B d p bs (answer_beside more (B.shows d) l) (B.receive d p bs m)
        answers_led between short = grind (arith, answer_as_beside, k.speaks_pjlink.answers_led)

      drops_class_2 : BetweenLines phase_open (B.shows d) p → (l at 1 is "2") ≡ true
          → let bs = l ++ codes "\r" in AnsweredAs B d p bs (line_swallowed (B.shows d).own) (B.receive d p bs m)
      drops_class_2 between two =
          let bs = l ++ codes "\r" in
          subst (λ (a : Answered). AnsweredAs B d p bs a (B.receive d p bs m)) (class_2_no_form (B.shows d) one l two)
          (answers [] refl between)

  reply_short : (d : R) (p : ℕ) (bs m : List ℕ) → OfClass1 B d → (B.receive d p bs m).length ≤ longest_of_class_1
  reply_short d p bs m one =
      let same = ap (λ (g : Gave). g.length) (gave_as B k d (receives p bs m)) in
      omega (arith, same, short_of_class_1 (B.shows d) one p bs (length m))

  pub class_1_alone : ClassOneAlone B
  class_1_alone = record {
    answers = λ more d p l m others one between plain enough. answers d p l m one plain enough more others between;
    answers_led =
        λ more d p l m others one between plain short enough.
        answers_led d p l m one plain enough more others between short;
    drops_class_2 = λ d p l m one between plain two enough. drops_class_2 d p l m one plain enough between two;
    reply_short = reply_short;
  }
