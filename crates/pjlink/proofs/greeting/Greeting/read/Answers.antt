-- It is none of the three lines.
use Rattle.std.proofs.Common.{ap, sym, ◌∙◌}
use Rattle.pjlink.specs.Greetings.{greets}
use Rattle.pjlink.proofs.GreetingCases.{greeting_none}
use Rattle.pjlink.proofs.greeting.Greeting.read.Goals as goal

pub returns : goal.returns
returns c =
    let l = c.args.line.now in
    sym (greeting_none l (sym c.is_line.ensures ∙ c.if-is_line.false) (sym c.is_line-2.ensures ∙ c.if-is_line-2.false)
    (ap (greets l) (sym c.hex_value.ensures) ∙ sym c.is_line-3.ensures ∙ c.if-is_line-3.false))
