use Rattle.program.proofs.SaidSo.{unread_so}
use Rattle.program.proofs.run.unbegun.Goals as goal

pub returns-then-lined-clause-said : goal.returns-then-lined-clause-said
returns-then-lined-clause-said g c =
    unread_so _ _ _ _ _ _ c.args.why c.in-Unread.error c.in-Unread.is c.cause.ensures c.say_unread-said.ensures

pub returns-else-lined-clause-said : goal.returns-else-lined-clause-said
returns-else-lined-clause-said g c =
    unread_so _ _ _ _ _ _ c.args.why c.in-Unread.error c.in-Unread.is c.cause.ensures c.say_unread-said.ensures
