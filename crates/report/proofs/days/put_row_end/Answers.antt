use Rattle.textio.proofs.Fronts.{writes_then, writes_fails}
use Rattle.report.specs.Days.{row_end}
use Rattle.report.proofs.days.put_row_end.Goals as goal

pub returns-in_err-put_sum : goal.returns-in_err-put_sum
unfolding row_end
returns-in_err-put_sum g c =
    writes_fails _ c.in_err-put_sum.ensures c.from_residual.ensures

pub returns : goal.returns
unfolding row_end
returns g c =
    writes_then c.in_ok-put_sum.ensures c.put_long_days.ensures
