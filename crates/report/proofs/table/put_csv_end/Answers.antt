use Rattle.textio.proofs.Fronts.{writes_then, writes_fails}
use Rattle.report.specs.Table.{csv_end}
use Rattle.report.proofs.table.put_csv_end.Goals as goal

pub returns-in_err-fill : goal.returns-in_err-fill
unfolding csv_end
returns-in_err-fill g c =
    writes_fails _ c.in_err-fill.ensures c.from_residual.ensures

pub returns-in_err-put_ended : goal.returns-in_err-put_ended
unfolding csv_end
returns-in_err-put_ended g c =
    writes_then c.in_ok-fill.ensures
    (writes_fails _ c.in_err-put_ended.ensures c.from_residual-in_err-put_ended.ensures)

pub returns-in_err-put : goal.returns-in_err-put
unfolding csv_end
returns-in_err-put g c =
    writes_then c.in_ok-fill.ensures
    (writes_then c.in_ok-put_ended.ensures
    (writes_fails _ c.in_err-put.ensures c.from_residual-in_err-put.ensures))

pub returns-in_err-put_end_note : goal.returns-in_err-put_end_note
unfolding csv_end
returns-in_err-put_end_note g c =
    writes_then c.in_ok-fill.ensures
    (writes_then c.in_ok-put_ended.ensures
    (writes_then c.in_ok-put.ensures
    (writes_fails _ c.in_err-put_end_note.ensures c.from_residual-in_err-put_end_note.ensures)))

pub returns : goal.returns
unfolding csv_end
returns g c =
    writes_then c.in_ok-fill.ensures
    (writes_then c.in_ok-put_ended.ensures
    (writes_then c.in_ok-put.ensures
    (writes_then c.in_ok-put_end_note.ensures c.put-2.ensures)))
