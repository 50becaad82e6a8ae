-- A name that the projector accepts is one that our reader accepts (RULES, Texts).
-- Assumes nothing.
use Rattle.std.proofs.Common.{ℕ, ◌≡◌, refl, sym, ap, ◌∙◌, true, List, ◌++◌, arith, codes}
use Rattle.words.specs.Texts.{is_name}
use Rattle.pjlink.specs.declared.command.Command.TheVariants.{Query}
use Rattle.pjlink.specs.declared.body.Body.TheVariants.{Name}
use Rattle.pjlink.specs.Said.{text_is}
use Rattle.pjlink.specs.declared.body.TextRule.TheVariants as rule
use Rattle.pjlink.specs.CanSay.{CanSay, tells, text}
use Rattle.pjlink.proofs.SaidPlain.{said_plain, text_said}
use Rattle.controller.specs.Reading.{read_reply, meaning}
use Rattle.controller.proofs.ReadsBack.{reply_read}

pub accepted_name_is_read : (s : List ℕ) → is_name s ≡ true
    → read_reply (Query Name) (codes "%1NAME=" ++ s ++ codes "\r") ≡ meaning (text_is s)
accepted_name_is_read s e =
    let can : CanSay (Query Name) (text_is s) = tells refl (text rule.Name s e) in
    let plain = said_plain can in
    let short = plain.0 in
    ap (λ (p : List ℕ). read_reply (Query Name) (codes "%1NAME=" ++ p ++ codes "\r")) (sym (text_said s))
    ∙ reply_read (Query Name) can (omega arith) plain.1
