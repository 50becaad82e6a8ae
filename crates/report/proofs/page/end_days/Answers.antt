use Rattle.textio.proofs.Fronts.{writes_then, writes_fails}
use Rattle.report.specs.Frame.{days_told}
use Rattle.report.proofs.page.end_days.Goals as goal

pub returns-in_err-end : goal.returns-in_err-end
unfolding days_told
returns-in_err-end g c =
    writes_fails _ (rw (c.days_until-last.ensures, c.at.ensures, c.layout_of-layout.ensures) at
    c.in_err-end.ensures) c.from_residual.ensures

pub returns-in_err-close_days : goal.returns-in_err-close_days
unfolding days_told
returns-in_err-close_days g c =
    writes_then (rw (c.days_until-last.ensures, c.at.ensures, c.layout_of-layout.ensures) at c.in_ok-end.ensures)
    (writes_fails _ c.in_err-close_days.ensures c.from_residual-in_err-close_days.ensures)

pub returns-in_err-put_table : goal.returns-in_err-put_table
unfolding days_told
returns-in_err-put_table g c =
    writes_then (rw (c.days_until-last.ensures, c.at.ensures, c.layout_of-layout.ensures) at c.in_ok-end.ensures)
    (writes_then c.in_ok-close_days.ensures
    (writes_fails _ c.in_err-put_table.ensures c.from_residual-in_err-put_table.ensures))

pub returns : goal.returns
unfolding days_told
returns g c =
    writes_then (rw (c.days_until-last.ensures, c.at.ensures, c.layout_of-layout.ensures) at c.in_ok-end.ensures)
    (writes_then c.in_ok-close_days.ensures
    (writes_then c.in_ok-put_table.ensures c.put_longest.ensures))
