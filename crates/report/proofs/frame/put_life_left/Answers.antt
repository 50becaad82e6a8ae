use Rattle.textio.proofs.Fronts.{writes_then, writes_fails}
use Rattle.report.proofs.frame.put_life_left.Goals as goal

pub returns-in_err-fill : goal.returns-in_err-fill
returns-in_err-fill g c =
    writes_fails _ c.in_err-fill.ensures c.from_residual.ensures

pub returns-in_err-put_until_when : goal.returns-in_err-put_until_when
returns-in_err-put_until_when g c =
    writes_then c.in_ok-fill.ensures
    (writes_fails _ c.in_err-put_until_when.ensures c.from_residual-in_err-put_until_when.ensures)

pub returns : goal.returns
returns g c =
    writes_then c.in_ok-fill.ensures
    (writes_then c.in_ok-put_until_when.ensures c.put.ensures)
