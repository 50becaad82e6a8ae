use Rattle.textio.proofs.Fronts.{writes_then, writes_fails}
use Rattle.report.specs.Days.{row_begun}
use Rattle.report.proofs.days.put_row.Goals as goal

pub returns-in_err-put : goal.returns-in_err-put
unfolding row_begun
returns-in_err-put g c =
    writes_fails _ c.in_err-put.ensures c.from_residual.ensures

pub returns-in_err-put_days : goal.returns-in_err-put_days
unfolding row_begun
returns-in_err-put_days g c =
    writes_then c.in_ok-put.ensures
    (writes_fails _ c.in_err-put_days.ensures c.from_residual-in_err-put_days.ensures)

pub returns-in_err-put-2 : goal.returns-in_err-put-2
unfolding row_begun
returns-in_err-put-2 g c =
    writes_then c.in_ok-put.ensures
    (writes_then c.in_ok-put_days.ensures
    (writes_fails _ c.in_err-put-2.ensures c.from_residual-in_err-put-2.ensures))

pub returns-in_err-put_names : goal.returns-in_err-put_names
unfolding row_begun
returns-in_err-put_names g c =
    writes_then c.in_ok-put.ensures
    (writes_then c.in_ok-put_days.ensures
    (writes_then c.in_ok-put-2.ensures
    (writes_fails _ c.in_err-put_names.ensures c.from_residual-in_err-put_names.ensures)))

pub returns-in_err-fill : goal.returns-in_err-fill
unfolding row_begun
returns-in_err-fill g c =
    writes_then c.in_ok-put.ensures
    (writes_then c.in_ok-put_days.ensures
    (writes_then c.in_ok-put-2.ensures
    (writes_then c.in_ok-put_names.ensures
    (writes_fails _ (rw c.box_width.ensures at c.in_err-fill.ensures) c.from_residual-in_err-fill.ensures))))

pub returns-in_err-put_days-2 : goal.returns-in_err-put_days-2
unfolding row_begun
returns-in_err-put_days-2 g c =
    writes_then c.in_ok-put.ensures
    (writes_then c.in_ok-put_days.ensures
    (writes_then c.in_ok-put-2.ensures
    (writes_then c.in_ok-put_names.ensures
    (writes_then (rw c.box_width.ensures at c.in_ok-fill.ensures)
    (writes_fails _ c.in_err-put_days-2.ensures c.from_residual-in_err-put_days-2.ensures)))))

pub returns-in_err-put-3 : goal.returns-in_err-put-3
unfolding row_begun
returns-in_err-put-3 g c =
    writes_then c.in_ok-put.ensures
    (writes_then c.in_ok-put_days.ensures
    (writes_then c.in_ok-put-2.ensures
    (writes_then c.in_ok-put_names.ensures
    (writes_then (rw c.box_width.ensures at c.in_ok-fill.ensures)
    (writes_then c.in_ok-put_days-2.ensures
    (writes_fails _ c.in_err-put-3.ensures c.from_residual-in_err-put-3.ensures))))))

pub returns : goal.returns
unfolding row_begun
returns g c =
    writes_then c.in_ok-put.ensures
    (writes_then c.in_ok-put_days.ensures
    (writes_then c.in_ok-put-2.ensures
    (writes_then c.in_ok-put_names.ensures
    (writes_then (rw c.box_width.ensures at c.in_ok-fill.ensures)
    (writes_then c.in_ok-put_days-2.ensures
    (writes_then c.in_ok-put-3.ensures c.put_bands.ensures))))))
