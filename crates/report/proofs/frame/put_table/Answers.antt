use Rattle.textio.proofs.Fronts.{writes_then, writes_fails}
use Rattle.report.specs.Frame.{table}
use Rattle.report.proofs.frame.put_table.Goals as goal

pub returns-in_err-begin_table : goal.returns-in_err-begin_table
unfolding table
returns-in_err-begin_table g c =
    writes_fails _ c.in_err-begin_table.ensures c.from_residual.ensures

pub returns-in_err-put_life_heads : goal.returns-in_err-put_life_heads
unfolding table
returns-in_err-put_life_heads g c =
    writes_then c.in_ok-begin_table.ensures
    (writes_fails _ c.in_err-put_life_heads.ensures c.from_residual-in_err-put_life_heads.ensures)

pub returns-in_err-put : goal.returns-in_err-put
unfolding table
returns-in_err-put g c =
    writes_then c.in_ok-begin_table.ensures
    (writes_then c.in_ok-put_life_heads.ensures
    (writes_fails _ c.in_err-put.ensures c.from_residual-in_err-put.ensures))

pub returns-in_err-put_table_rows : goal.returns-in_err-put_table_rows
unfolding table
returns-in_err-put_table_rows g c =
    writes_then c.in_ok-begin_table.ensures
    (writes_then c.in_ok-put_life_heads.ensures
    (writes_then c.in_ok-put.ensures
    (writes_fails _ c.in_err-put_table_rows.ensures c.from_residual-in_err-put_table_rows.ensures)))

pub returns : goal.returns
unfolding table
returns g c =
    writes_then c.in_ok-begin_table.ensures
    (writes_then c.in_ok-put_life_heads.ensures
    (writes_then c.in_ok-put.ensures
    (writes_then c.in_ok-put_table_rows.ensures c.put-2.ensures)))
