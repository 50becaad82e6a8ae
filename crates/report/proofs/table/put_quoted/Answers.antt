use Rattle.textio.proofs.Fronts.{writes_then, writes_fails}
use Rattle.report.proofs.table.put_quoted.Goals as goal

pub returns-in_err-put : goal.returns-in_err-put
returns-in_err-put g c =
    writes_fails _ c.in_err-put.ensures c.from_residual.ensures

pub returns-in_err-put_quoted_text : goal.returns-in_err-put_quoted_text
returns-in_err-put_quoted_text g c =
    writes_then c.in_ok-put.ensures
    (writes_fails _ c.in_err-put_quoted_text.ensures c.from_residual-in_err-put_quoted_text.ensures)

pub returns : goal.returns
returns g c =
    writes_then c.in_ok-put.ensures
    (writes_then c.in_ok-put_quoted_text.ensures c.put-2.ensures)
