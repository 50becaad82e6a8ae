use Rattle.textio.proofs.Fronts.{writes_then, writes_fails}
use Rattle.report.specs.Frame.{span_said}
use Rattle.report.proofs.frame.put_span_said.Goals as goal

pub returns-in_err-put_word : goal.returns-in_err-put_word
unfolding span_said
returns-in_err-put_word g c =
    writes_fails _ c.in_err-put_word.ensures c.from_residual.ensures

pub returns-in_err-put_instant : goal.returns-in_err-put_instant
unfolding span_said
returns-in_err-put_instant g c =
    writes_then c.in_ok-put_word.ensures
    (writes_fails _ c.in_err-put_instant.ensures c.from_residual-in_err-put_instant.ensures)

pub returns-in_err-put : goal.returns-in_err-put
unfolding span_said
returns-in_err-put g c =
    writes_then c.in_ok-put_word.ensures
    (writes_then c.in_ok-put_instant.ensures
    (writes_fails _ c.in_err-put.ensures c.from_residual-in_err-put.ensures))

pub returns-in_err-put_instant-2 : goal.returns-in_err-put_instant-2
unfolding span_said
returns-in_err-put_instant-2 g c =
    writes_then c.in_ok-put_word.ensures
    (writes_then c.in_ok-put_instant.ensures
    (writes_then c.in_ok-put.ensures
    (writes_fails _ c.in_err-put_instant-2.ensures c.from_residual-in_err-put_instant-2.ensures)))

pub returns-in_err-put-2 : goal.returns-in_err-put-2
unfolding span_said
returns-in_err-put-2 g c =
    writes_then c.in_ok-put_word.ensures
    (writes_then c.in_ok-put_instant.ensures
    (writes_then c.in_ok-put.ensures
    (writes_then c.in_ok-put_instant-2.ensures
    (writes_fails _ c.in_err-put-2.ensures c.from_residual-in_err-put-2.ensures))))

pub returns-in_err-put_spent : goal.returns-in_err-put_spent
unfolding span_said
returns-in_err-put_spent g c =
    writes_then c.in_ok-put_word.ensures
    (writes_then c.in_ok-put_instant.ensures
    (writes_then c.in_ok-put.ensures
    (writes_then c.in_ok-put_instant-2.ensures
    (writes_then c.in_ok-put-2.ensures
    (writes_fails _ (rw c.saturating_sub.ensures at c.in_err-put_spent.ensures)
    c.from_residual-in_err-put_spent.ensures)))))

pub returns : goal.returns
unfolding span_said
returns g c =
    writes_then c.in_ok-put_word.ensures
    (writes_then c.in_ok-put_instant.ensures
    (writes_then c.in_ok-put.ensures
    (writes_then c.in_ok-put_instant-2.ensures
    (writes_then c.in_ok-put-2.ensures
    (writes_then (rw c.saturating_sub.ensures at c.in_ok-put_spent.ensures) c.put-3.ensures)))))
