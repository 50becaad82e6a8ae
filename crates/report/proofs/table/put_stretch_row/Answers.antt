use Rattle.textio.proofs.Fronts.{writes_then, writes_fails}
use Rattle.report.specs.Table.{stretch_row}
use Rattle.report.proofs.table.put_stretch_row.Goals as goal

pub returns-in_err-fill : goal.returns-in_err-fill
unfolding stretch_row
returns-in_err-fill g c =
    writes_fails _ c.in_err-fill.ensures c.from_residual.ensures

pub returns-in_err-put_span : goal.returns-in_err-put_span
unfolding stretch_row
returns-in_err-put_span g c =
    writes_then c.in_ok-fill.ensures
    (writes_fails _ c.in_err-put_span.ensures c.from_residual-in_err-put_span.ensures)

pub returns-in_err-put : goal.returns-in_err-put
unfolding stretch_row
returns-in_err-put g c =
    writes_then c.in_ok-fill.ensures
    (writes_then c.in_ok-put_span.ensures
    (writes_fails _ c.in_err-put.ensures c.from_residual-in_err-put.ensures))

pub returns-in_err-put_spent : goal.returns-in_err-put_spent
unfolding stretch_row
returns-in_err-put_spent g c =
    writes_then c.in_ok-fill.ensures
    (writes_then c.in_ok-put_span.ensures
    (writes_then c.in_ok-put.ensures
    (writes_fails _ (rw c.saturating_sub.ensures at c.in_err-put_spent.ensures)
    c.from_residual-in_err-put_spent.ensures)))

pub returns-in_err-put-2 : goal.returns-in_err-put-2
unfolding stretch_row
returns-in_err-put-2 g c =
    writes_then c.in_ok-fill.ensures
    (writes_then c.in_ok-put_span.ensures
    (writes_then c.in_ok-put.ensures
    (writes_then (rw c.saturating_sub.ensures at c.in_ok-put_spent.ensures)
    (writes_fails _ c.in_err-put-2.ensures c.from_residual-in_err-put-2.ensures))))

pub returns-in_err-put_note : goal.returns-in_err-put_note
unfolding stretch_row
returns-in_err-put_note g c =
    writes_then c.in_ok-fill.ensures
    (writes_then c.in_ok-put_span.ensures
    (writes_then c.in_ok-put.ensures
    (writes_then (rw c.saturating_sub.ensures at c.in_ok-put_spent.ensures)
    (writes_then c.in_ok-put-2.ensures
    (writes_fails _ (rw c.note_of-note.ensures at c.in_err-put_note.ensures)
    c.from_residual-in_err-put_note.ensures)))))

pub returns : goal.returns
unfolding stretch_row
returns g c =
    writes_then c.in_ok-fill.ensures
    (writes_then c.in_ok-put_span.ensures
    (writes_then c.in_ok-put.ensures
    (writes_then (rw c.saturating_sub.ensures at c.in_ok-put_spent.ensures)
    (writes_then c.in_ok-put-2.ensures
    (writes_then (rw c.note_of-note.ensures at c.in_ok-put_note.ensures) c.put-3.ensures)))))
