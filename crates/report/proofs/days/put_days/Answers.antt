use Rattle.textio.proofs.Fronts.{writes_then, writes_fails}
use Rattle.report.proofs.days.put_days.Goals as goal

pub returns-in_err-put_first : goal.returns-in_err-put_first
returns-in_err-put_first g c =
    writes_fails _ c.in_err-put_first.ensures c.from_residual.ensures

pub returns : goal.returns
returns g c =
    writes_then c.in_ok-put_first.ensures c.put_day.ensures
