use Rattle.textio.proofs.Fronts.{writes_then, writes_fails}
use Rattle.report.proofs.times.put_clock_instant.Goals as goal

pub returns-in_err-put_date_of : goal.returns-in_err-put_date_of
returns-in_err-put_date_of g c =
    writes_fails _ c.in_err-put_date_of.ensures c.from_residual.ensures

pub returns : goal.returns
returns g c =
    writes_then c.in_ok-put_date_of.ensures c.put_time.ensures
