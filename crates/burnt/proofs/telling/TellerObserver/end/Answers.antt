use Rattle.std.proofs.Common.{sym, subst}
use Rattle.textio.specs.Fronts.{WritesText}
use Rattle.textio.proofs.Fronts.{writes_then, writes_fails}
use Rattle.burnt.proofs.FloorTold.{told_ended, teller_itself_ok}
use Rattle.burnt.proofs.telling.TellerObserver.end.Goals as goal

pub returns-in_err-tell_ended-clause-text : goal.returns-in_err-tell_ended-clause-text
returns-in_err-tell_ended-clause-text g c =
    subst (WritesText _ _ _ _) (sym (told_ended c.args.self.now))
    (writes_fails _ (rw c.is_underway.ensures at c.in_err-tell_ended.ensures.text) c.from_residual.ensures)

pub returns-clause-text : goal.returns-clause-text
returns-clause-text g c =
    subst (WritesText _ _ _ _) (sym (told_ended c.args.self.now))
    (writes_then (rw c.is_underway.ensures at c.in_ok-tell_ended.ensures.text)
    (rw (c.in_ok-tell_ended.ensures.report, c.is_underway.ensures) at c.tell_totals.ensures))

pub returns-clause-left : goal.returns-clause-left
returns-clause-left g c = teller_itself_ok c.args.self.now _
