use Rattle.textio.proofs.Fronts.{writes_then, writes_fails}
use Rattle.report.proofs.Report.end_until.Goals as goal

pub returns-in_err-put_totals-in-Lines : goal.returns-in_err-put_totals-in-Lines
returns-in_err-put_totals-in-Lines g c =
    rw c.in-Lines.is (writes_fails _ c.in_err-put_totals-in-Lines.ensures c.from_residual.ensures)

pub returns-in_ok-put_totals-in-Lines : goal.returns-in_ok-put_totals-in-Lines
returns-in_ok-put_totals-in-Lines g c =
    rw c.in-Lines.is (writes_then c.in_ok-put_totals-in-Lines.ensures c.put_stray.ensures)
