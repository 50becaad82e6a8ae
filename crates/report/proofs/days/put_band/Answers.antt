use Rattle.textio.proofs.Fronts.{writes_then, writes_fails}
use Rattle.report.specs.Days.{band}
use Rattle.report.proofs.days.put_band.Goals as goal

pub returns-in_err-fill : goal.returns-in_err-fill
unfolding band
returns-in_err-fill g c =
    writes_fails _ (rw c.top-y.ensures.top at c.in_err-fill.ensures) c.from_residual.ensures

pub returns-in_err-put_band_lines : goal.returns-in_err-put_band_lines
unfolding band
returns-in_err-put_band_lines g c =
    writes_then (rw c.top-y.ensures.top at c.in_ok-fill.ensures)
    (writes_fails _ (rw c.top-y.ensures.top at c.in_err-put_band_lines.ensures)
    c.from_residual-in_err-put_band_lines.ensures)

pub returns : goal.returns
unfolding band
returns g c =
    writes_then (rw c.top-y.ensures.top at c.in_ok-fill.ensures)
    (writes_then (rw c.top-y.ensures.top at c.in_ok-put_band_lines.ensures) c.put.ensures)
