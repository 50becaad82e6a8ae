use Rattle.textio.proofs.Fronts.{writes_then, writes_fails}
use Rattle.report.specs.Days.{bar}
use Rattle.report.proofs.days.put_bar.Goals as goal

pub returns-in_err-fill : goal.returns-in_err-fill
unfolding bar
returns-in_err-fill g c =
    writes_fails _ (rw c.top.ensures.top at c.in_err-fill.ensures) c.from_residual.ensures

pub returns-in_err-put_note_in_title : goal.returns-in_err-put_note_in_title
unfolding bar
returns-in_err-put_note_in_title g c =
    writes_then (rw c.top.ensures.top at c.in_ok-fill.ensures)
    (writes_fails _ c.in_err-put_note_in_title.ensures c.from_residual-in_err-put_note_in_title.ensures)

pub returns-in_err-put : goal.returns-in_err-put
unfolding bar
returns-in_err-put g c =
    writes_then (rw c.top.ensures.top at c.in_ok-fill.ensures)
    (writes_then c.in_ok-put_note_in_title.ensures
    (writes_fails _ c.in_err-put.ensures c.from_residual-in_err-put.ensures))

pub returns : goal.returns
unfolding bar
returns g c =
    writes_then (rw c.top.ensures.top at c.in_ok-fill.ensures)
    (writes_then c.in_ok-put_note_in_title.ensures
    (writes_then c.in_ok-put.ensures c.put_stripe.ensures))
