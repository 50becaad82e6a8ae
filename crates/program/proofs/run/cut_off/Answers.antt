use Rattle.std.proofs.Common.{subst}
use Rattle.program.specs.Running.{LastSaid}
use Rattle.program.proofs.Doing.{last_so}
use Rattle.program.proofs.run.cut_off.Goals as goal

pub returns-clause-said : goal.returns-clause-said
returns-clause-said g c = rw c.shown.ensures at c.failed-status.ensures.said

pub returns-clause-last : goal.returns-clause-last
returns-clause-last g c =
    subst (λ form. LastSaid g.W.ByteSink.fails_with form (g.W.ByteSink.contents c.args.to.now)
    (g.W.ByteSink.contents c.end_output.new.to) c.args.cut.cause) c.cut_form.ensures
    (last_so g.W.ByteSink.fails_with c.cut_form.result c.args.cut.cause c.last_failure.result c.last_failure.ensures
    c.end_output.ensures.text)
