use Rattle.textio.proofs.Fronts.{writes_then, writes_fails}
use Rattle.report.specs.Days.{days_ended}
use Rattle.report.proofs.days.end.Goals as goal

pub returns-in_err-end_row : goal.returns-in_err-end_row
unfolding days_ended
returns-in_err-end_row g c =
    writes_fails _ c.in_err-end_row.ensures c.from_residual.ensures

pub returns : goal.returns
unfolding days_ended
returns g c =
    writes_then c.in_ok-end_row.ensures c.put_idle.ensures
