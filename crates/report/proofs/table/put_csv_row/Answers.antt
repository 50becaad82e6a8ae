use Rattle.textio.proofs.Fronts.{writes_then, writes_fails}
use Rattle.report.specs.Table.{csv_row}
use Rattle.report.proofs.table.put_csv_row.Goals as goal

pub returns-in_err-fill : goal.returns-in_err-fill
unfolding csv_row
returns-in_err-fill g c =
    writes_fails _ (rw c.saturating_sub.ensures at c.in_err-fill.ensures) c.from_residual.ensures

pub returns-in_err-put_clock_fields : goal.returns-in_err-put_clock_fields
unfolding csv_row
returns-in_err-put_clock_fields g c =
    writes_then (rw c.saturating_sub.ensures at c.in_ok-fill.ensures)
    (writes_fails _ c.in_err-put_clock_fields.ensures c.from_residual-in_err-put_clock_fields.ensures)

pub returns : goal.returns
unfolding csv_row
returns g c =
    writes_then (rw c.saturating_sub.ensures at c.in_ok-fill.ensures)
    (writes_then c.in_ok-put_clock_fields.ensures (rw c.note_of-note.ensures at c.put_csv_tail.ensures))
