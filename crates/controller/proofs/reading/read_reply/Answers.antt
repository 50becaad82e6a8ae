-- Each `return` is one case of `read_reply`: the line is taken apart into what the cases speak of.
use Rattle.std.proofs.Common.{arith, ◌≡◌, sym, ap, ◌∙◌, ℕ, Bool, List, Result}
use Rattle.pjlink.specs.Forms.{is_reply_form, head_body, IsReplyOf}
use Rattle.pjlink.specs.Commands.{body_of, command_class}
use Rattle.pjlink.specs.declared.body.Body.{Body}
use Rattle.pjlink.specs.declared.command.Command.{Command}
use Rattle.pjlink.specs.Bodies.{is_body}
use Rattle.pjlink.specs.Carried.{said_by, parameter_said}
use Rattle.pjlink.specs.declared.answer.Answer.{Answer}
use Rattle.pjlink.specs.declared.answer.Answer.TheVariants as an
use Rattle.words.specs.declared.error_reply.ErrorReply.{ErrorReply}
use Rattle.pjlink.specs.Reading.{read_parameter}
use Rattle.controller.specs.Reading.{meaning, saying}
use Rattle.controller.proofs.Cases.{reply_erra, reply_unformed, reply_other, reply_said}
use Rattle.controller.proofs.reading.read_reply.Goals as goal

-- the form and the body are tested at the class and the body that were asked for
formed : (c : Command) (l : List ℕ) {k : ℕ} {u : Bool} → k ≡ command_class c → is_reply_form k l ≡ u
    → is_reply_form (command_class c) l ≡ u
formed c l e f = ap (λ (k : ℕ). is_reply_form k l) (sym e) ∙ f

named : (c : Command) (l : List ℕ) {k j : ℕ} {b : Body} {s p : List ℕ} {t u : Bool} → IsReplyOf k l s p
    → j ≡ command_class c → b ≡ body_of c → t ≡ is_body j s b → t ≡ u →
    is_body (command_class c) (head_body l) (body_of c) ≡ u
named c l taken e f g h = sym (g ∙ (λ i. is_body (e i) (taken.body i) (f i))) ∙ h

-- a reply says something
replied : (r : Result Answer ErrorReply) → meaning (said_by r) ≡ saying (said_by r)
replied r = grind arith

pub returns-then-is_same : goal.returns-then-is_same
returns-then-is_same c = sym (reply_erra c.args.command c.args.line.now (sym c.is_same.ensures ∙ c.if-is_same.true))

pub returns-in_default : goal.returns-in_default
returns-in_default c =
    sym (reply_unformed c.args.command c.args.line.now (sym c.is_same.ensures ∙ c.if-is_same.false)
    (formed c.args.command c.args.line.now c.class.ensures c.in_default.ensures.other))

pub returns-then-not-is_named : goal.returns-then-not-is_named
returns-then-not-is_named c =
    let l = c.args.line.now in
    sym (reply_other c.args.command l (sym c.is_same.ensures ∙ c.if-is_same.false)
    (formed c.args.command l c.class.ensures c.in-Some.ensures.taken.form)
    (named c.args.command l c.in-Some.ensures.taken c.class-2.ensures c.body.ensures c.is_named.ensures
    c.if-not-is_named.true))

pub returns-in_default-read_parameter : goal.returns-in_default-read_parameter
returns-in_default-read_parameter c =
    let l = c.args.line.now in
    ap saying (sym (ap parameter_said c.in_default-read_parameter.is) ∙ c.read_parameter.ensures
    ∙ ap (read_parameter c.args.command) c.in-Some.ensures.taken.parameter)
    ∙ sym (reply_said c.args.command l (sym c.is_same.ensures ∙ c.if-is_same.false)
    (formed c.args.command l c.class.ensures c.in-Some.ensures.taken.form)
    (named c.args.command l c.in-Some.ensures.taken c.class-2.ensures c.body.ensures c.is_named.ensures
    c.if-not-is_named.false))

pub returns : goal.returns
returns c =
    let l = c.args.line.now in
    replied c.in-Some-read_parameter.said
    ∙ ap saying (sym (ap parameter_said c.in-Some-read_parameter.is) ∙ c.read_parameter.ensures
    ∙ ap (read_parameter c.args.command) c.in-Some.ensures.taken.parameter)
    ∙ sym (reply_said c.args.command l (sym c.is_same.ensures ∙ c.if-is_same.false)
    (formed c.args.command l c.class.ensures c.in-Some.ensures.taken.form)
    (named c.args.command l c.in-Some.ensures.taken c.class-2.ensures c.body.ensures c.is_named.ensures
    c.if-not-is_named.false))
