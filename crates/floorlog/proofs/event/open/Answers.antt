-- The greeting is what the place's opening has.
use Rattle.std.proofs.Common.{ap, sym, ◌∙◌, eq-eqb}
use Rattle.device.specs.Calls.{reply_room, opened_by}
use Rattle.floorlog.specs.Doing.{outcome}
use Rattle.floorlog.proofs.LogOpenings.{log_opened_closed}
use Rattle.floorlog.proofs.Outcomes.{opened_text}
use Rattle.floorlog.proofs.event.open.Goals as goal

pub returns-in-Ok-clause-text : goal.returns-in-Ok-clause-text
returns-in-Ok-clause-text c =
    let d = c.args.legal.now.device.now in
    opened_text (opened_by d c.args.random reply_room) c.args.reply.now (rw c.told-reply at c.in-Ok.ensures.says)
    (rw c.told-reply at c.in-Ok.ensures.reply)
    ∙ ap outcome (sym (log_opened_closed d c.args.random c.args.legal.now.legal (eq-eqb _ _
    c.if-legal-ne-PHASE_CLOSED.false)))
