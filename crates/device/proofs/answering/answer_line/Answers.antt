-- The line is taken apart into what its answer speaks of, and its class is one that the set-up takes.
use Rattle.std.proofs.Common.{ℕ, ◌≡◌, sym, ap, ◌∙◌, Bool, true, false, List, arith, Result}
use Rattle.words.specs.Classes.{class_as_number, class_code}
use Rattle.words.specs.declared.class.ClassNumber.{ClassNumber}
use Rattle.words.specs.declared.error_reply.ErrorReply.{ErrorReply}
use Rattle.pjlink.specs.declared.answer.Answer.{Answer}
use Rattle.pjlink.specs.Carried.{said_by}
use Rattle.pjlink.specs.Forms.{is_command_form, reply_line, IsCommandOf}
use Rattle.pjlink.specs.Requests.{Request, request_of}
use Rattle.pjlink.specs.Said.{said_bytes}
use Rattle.record.specs.Legal.{is_settings}
use Rattle.record.specs.Views.{class_seen}
use Rattle.record.specs.declared.types.Own.{Own}
use Rattle.record.specs.declared.types.Settings.{Settings}
use Rattle.record.proofs.FactsTold.{settings_is}
use Rattle.meaning.specs.Meaning.{answer_for, after_request}
use Rattle.meaning.proofs.ClassKnown.{class_as_number-class_seen}
use Rattle.text.proofs.Choices.{if_yes, if_no}
use Rattle.device.specs.Answering.{line_asks, line_swallowed, command_answer, line_answer}
use Rattle.device.proofs.answering.answer_line.Goals as goal

module _
    (s : Settings)
    (o : Own)
    (l : List ℕ)
    {k : ClassNumber}
    (legal : is_settings s ≡ true)
    (e : k ≡ class_seen s)
  where
    at_class : {t : Bool} → is_command_form (class_as_number k) l ≡ t → is_command_form s.class_number l ≡ t
    at_class f = grind (arith, class_as_number-class_seen, settings_is)

    unformed : is_command_form (class_as_number k) l ≡ false → line_swallowed o ≡ line_answer s o l
    unfolding line_answer
    unformed f = sym (if_no (command_answer s o l) (line_swallowed o) (at_class f))

    module _
        (j : ClassNumber)
        {letters p : List ℕ}
        (taken : IsCommandOf (class_as_number k) l (class_as_number j) letters p)
      where
        formed : command_answer s o l ≡ line_answer s o l
        unfolding line_answer
        formed = sym (if_yes (command_answer s o l) (line_swallowed o) (at_class taken.form))

        asks : {r : Request} → r ≡ request_of (class_as_number j) letters p → r ≡ line_asks l
        asks f = grind arith

        answers : {r : Request} (reply : Result Answer ErrorReply) → r ≡ request_of (class_as_number j) letters p
            → said_by reply ≡ answer_for s o r
            → reply_line (class_code j) letters (said_bytes (said_by reply)) ≡ (line_answer s o l).reply
        answers reply f g = grind (arith, formed)

pub returns-in_default-clause-reply : goal.returns-in_default-clause-reply
returns-in_default-clause-reply c = grind (arith, unformed)

pub returns-in_default-clause-own : goal.returns-in_default-clause-own
returns-in_default-clause-own c = grind (arith, unformed)

pub returns-clause-reply : goal.returns-clause-reply
returns-clause-reply c = grind (arith, answers)

pub returns-clause-own : goal.returns-clause-own
returns-clause-own c =
    let s = c.args.settings.now in
    let o = c.args.own.now in
    let l = c.args.bytes.now in
    c.decide-reply.ensures.own
    ∙ ap (after_request s o)
    (asks s o l c.requires.ready.settings c.class.ensures _ c.in-Some.ensures.taken c.request-asked.ensures)
    ∙ ap (λ a. a.own) (formed s o l c.requires.ready.settings c.class.ensures _ c.in-Some.ensures.taken)
