use Rattle.textio.proofs.Fronts.{writes_then, writes_fails}
use Rattle.report.proofs.table.put_csv_tail.Goals as goal

pub returns-in_err-put : goal.returns-in_err-put
returns-in_err-put g c =
    writes_fails _ c.in_err-put.ensures c.from_residual.ensures

pub returns-in_err-put_note : goal.returns-in_err-put_note
returns-in_err-put_note g c =
    writes_then c.in_ok-put.ensures
    (writes_fails _ c.in_err-put_note.ensures c.from_residual-in_err-put_note.ensures)

pub returns : goal.returns
returns g c =
    writes_then c.in_ok-put.ensures
    (writes_then c.in_ok-put_note.ensures c.put-2.ensures)
