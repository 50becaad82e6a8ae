use Rattle.textio.proofs.Fronts.{writes_then, writes_fails, writes_failed, writes_last}
use Rattle.report.proofs.days.draw_in.Goals as goal

pub returns-in_err-opened-clause-text : goal.returns-in_err-opened-clause-text
returns-in_err-opened-clause-text g c = writes_fails _ c.in_err-opened.ensures.text c.from_residual.ensures

pub returns-in_err-put_bars_if-clause-text : goal.returns-in_err-put_bars_if-clause-text
returns-in_err-put_bars_if-clause-text g c =
    writes_then c.in_ok-opened.ensures.text
    (writes_failed (rw c.is_drawn_in-is_drawn.ensures at c.in_err-put_bars_if.ensures)
    c.from_residual-in_err-put_bars_if.ensures)

pub returns-clause-text : goal.returns-clause-text
returns-clause-text g c =
    writes_last _ c.in_ok-opened.ensures.text.whole
    (rw c.is_drawn_in-is_drawn.ensures at c.in_ok-put_bars_if.ensures)
