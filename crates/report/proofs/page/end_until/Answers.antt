use Rattle.textio.proofs.Fronts.{writes_then, writes_fails}
use Rattle.report.specs.Frame.{page_ended_until}
use Rattle.report.proofs.page.end_until.Goals as goal

pub returns-in_err-end_days : goal.returns-in_err-end_days
unfolding page_ended_until
returns-in_err-end_days g c =
    writes_fails _ c.in_err-end_days.ensures c.from_residual.ensures

pub returns-in_err-put_until : goal.returns-in_err-put_until
unfolding page_ended_until
returns-in_err-put_until g c =
    writes_then c.in_ok-end_days.ensures
    (writes_fails _ c.in_err-put_until.ensures c.from_residual-in_err-put_until.ensures)

pub returns : goal.returns
unfolding page_ended_until
returns g c =
    writes_then c.in_ok-end_days.ensures
    (writes_then c.in_ok-put_until.ensures c.put_paragraph.ensures)
