use Rattle.textio.proofs.Fronts.{writes_then, writes_fails}
use Rattle.report.specs.Frame.{page_ended}
use Rattle.report.proofs.page.end.Goals as goal

pub returns-in_err-end_days : goal.returns-in_err-end_days
unfolding page_ended
returns-in_err-end_days g c =
    writes_fails _ c.in_err-end_days.ensures c.from_residual.ensures

pub returns : goal.returns
unfolding page_ended
returns g c =
    writes_then c.in_ok-end_days.ensures c.put_paragraph.ensures
