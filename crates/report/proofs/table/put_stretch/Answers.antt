use Rattle.textio.proofs.Fronts.{writes_then, writes_fails}
use Rattle.report.specs.Table.{table_stretch}
use Rattle.report.proofs.table.put_stretch.Goals as goal

pub returns-in_err-begin_if : goal.returns-in_err-begin_if
unfolding table_stretch
returns-in_err-begin_if g c =
    writes_fails _ c.in_err-begin_if.ensures c.from_residual.ensures

pub returns : goal.returns
unfolding table_stretch
returns g c =
    writes_then c.in_ok-begin_if.ensures c.put_rows.ensures
