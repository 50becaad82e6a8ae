use Rattle.textio.proofs.Fronts.{writes_then, writes_fails}
use Rattle.report.proofs.days.put_behind.Goals as goal

pub returns-in_err-put : goal.returns-in_err-put
returns-in_err-put g c =
    writes_fails _ c.in_err-put.ensures c.from_residual.ensures

pub returns : goal.returns
returns g c =
    writes_then c.in_ok-put.ensures c.put_note.ensures
