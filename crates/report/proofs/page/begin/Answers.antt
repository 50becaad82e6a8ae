use Rattle.textio.proofs.Fronts.{writes_then, writes_fails}
use Rattle.report.specs.Frame.{page_begun}
use Rattle.report.proofs.page.begin.Goals as goal

pub returns-in_err-put_head : goal.returns-in_err-put_head
unfolding page_begun
returns-in_err-put_head g c =
    writes_fails _ c.in_err-put_head.ensures c.from_residual.ensures

pub returns-in_err-put_about : goal.returns-in_err-put_about
unfolding page_begun
returns-in_err-put_about g c =
    writes_then c.in_ok-put_head.ensures
    (writes_fails _ c.in_err-put_about.ensures c.from_residual-in_err-put_about.ensures)

pub returns-in_err-put_log_span : goal.returns-in_err-put_log_span
unfolding page_begun
returns-in_err-put_log_span g c =
    writes_then c.in_ok-put_head.ensures
    (writes_then c.in_ok-put_about.ensures
    (writes_fails _ c.in_err-put_log_span.ensures c.from_residual-in_err-put_log_span.ensures))

pub returns-in_err-put_clock : goal.returns-in_err-put_clock
unfolding page_begun
returns-in_err-put_clock g c =
    writes_then c.in_ok-put_head.ensures
    (writes_then c.in_ok-put_about.ensures
    (writes_then c.in_ok-put_log_span.ensures
    (writes_fails _ (rw c.layout_of-layout.ensures at c.in_err-put_clock.ensures)
    c.from_residual-in_err-put_clock.ensures)))

pub returns-in_err-put_stripe_text : goal.returns-in_err-put_stripe_text
unfolding page_begun
returns-in_err-put_stripe_text g c =
    writes_then c.in_ok-put_head.ensures
    (writes_then c.in_ok-put_about.ensures
    (writes_then c.in_ok-put_log_span.ensures
    (writes_then (rw c.layout_of-layout.ensures at c.in_ok-put_clock.ensures)
    (writes_fails _ c.in_err-put_stripe_text.ensures c.from_residual-in_err-put_stripe_text.ensures))))

pub returns-in_err-put_head_of_rows : goal.returns-in_err-put_head_of_rows
unfolding page_begun
returns-in_err-put_head_of_rows g c =
    writes_then c.in_ok-put_head.ensures
    (writes_then c.in_ok-put_about.ensures
    (writes_then c.in_ok-put_log_span.ensures
    (writes_then (rw c.layout_of-layout.ensures at c.in_ok-put_clock.ensures)
    (writes_then c.in_ok-put_stripe_text.ensures
    (writes_fails _ (rw c.layout_of-layout.ensures at c.in_err-put_head_of_rows.ensures)
    c.from_residual-in_err-put_head_of_rows.ensures)))))

pub returns : goal.returns
unfolding page_begun
returns g c =
    writes_then c.in_ok-put_head.ensures
    (writes_then c.in_ok-put_about.ensures
    (writes_then c.in_ok-put_log_span.ensures
    (writes_then (rw c.layout_of-layout.ensures at c.in_ok-put_clock.ensures)
    (writes_then c.in_ok-put_stripe_text.ensures
    (writes_then (rw c.layout_of-layout.ensures at c.in_ok-put_head_of_rows.ensures) (rw
    c.layout_of-layout.ensures at c.put_labels.ensures))))))
