use Rattle.textio.proofs.Fronts.{writes_then, writes_fails}
use Rattle.report.specs.Table.{table_ended}
use Rattle.report.proofs.table.end.Goals as goal

pub returns-in_err-end_rows : goal.returns-in_err-end_rows
unfolding table_ended
returns-in_err-end_rows g c =
    writes_fails _ c.in_err-end_rows.ensures c.from_residual.ensures

pub returns : goal.returns
unfolding table_ended
returns g c =
    writes_then c.in_ok-end_rows.ensures c.put.ensures
