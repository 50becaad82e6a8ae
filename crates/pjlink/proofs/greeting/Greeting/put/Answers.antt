use Rattle.std.proofs.Common.{arith, ap, sym, ◌∙◌, ◌++◌}
use Rattle.pjlink.specs.Greetings.{greeting_line}
use Rattle.pjlink.proofs.GreetingCases.{erra_spelt, secured_put}
use Rattle.pjlink.proofs.greeting.Greeting.put.Goals as goal

pub returns-in-Secured : goal.returns-in-Secured
returns-in-Secured c =
    secured_put _ c.put_all-in-Secured.ensures c.hex8.ensures c.put_all-in-Secured-2.ensures c.push.ensures.items
    ∙ ap (λ g. c.args.out.now.items ++ greeting_line g) (sym c.in-Secured.is)

pub returns-in-Refused : goal.returns-in-Refused
returns-in-Refused c = grind (arith, erra_spelt)
