use Rattle.textio.proofs.Fronts.{writes_then, writes_fails}
use Rattle.report.proofs.days.put_long_line.Goals as goal

pub returns-in_err-put : goal.returns-in_err-put
returns-in_err-put g c =
    writes_fails _ c.in_err-put.ensures c.from_residual.ensures

pub returns-in_err-put_day : goal.returns-in_err-put_day
returns-in_err-put_day g c =
    writes_then c.in_ok-put.ensures
    (writes_fails _ c.in_err-put_day.ensures c.from_residual-in_err-put_day.ensures)

pub returns : goal.returns
returns g c =
    writes_then c.in_ok-put.ensures
    (writes_then c.in_ok-put_day.ensures c.fill.ensures)
