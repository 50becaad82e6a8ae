use Rattle.textio.proofs.Fronts.{writes_then, writes_fails}
use Rattle.report.specs.Frame.{table_row}
use Rattle.report.proofs.frame.put_table_row.Goals as goal

pub returns-in_err-put_lamp_cells : goal.returns-in_err-put_lamp_cells
unfolding table_row
returns-in_err-put_lamp_cells g c =
    writes_fails _ c.in_err-put_lamp_cells.ensures c.from_residual.ensures

pub returns-in_err-put_life_cells : goal.returns-in_err-put_life_cells
unfolding table_row
returns-in_err-put_life_cells g c =
    writes_then c.in_ok-put_lamp_cells.ensures
    (writes_fails _ c.in_err-put_life_cells.ensures c.from_residual-in_err-put_life_cells.ensures)

pub returns : goal.returns
unfolding table_row
returns g c =
    writes_then c.in_ok-put_lamp_cells.ensures
    (writes_then c.in_ok-put_life_cells.ensures c.put.ensures)
