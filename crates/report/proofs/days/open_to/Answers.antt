use Rattle.std.proofs.Common.{[]}
use Rattle.std.proofs.KnownBytes.{Appends-nil, Appends-trans}
use Rattle.textio.proofs.Fronts.{writes_then, writes_fails, writes_failed, writes_all}
use Rattle.report.proofs.Drawn.{opened_none, opened_some}
use Rattle.report.proofs.days.open_to.Goals as goal

pub returns-then-day-row-clause-text : goal.returns-then-day-row-clause-text
returns-then-day-row-clause-text g c =
    rw (opened_none c.args.v c.args.lamps c.args.row c.args.day c.if-day-row.true) (writes_all [] (Appends-nil _))

pub returns-in_err-end_row-clause-text : goal.returns-in_err-end_row-clause-text
returns-in_err-end_row-clause-text g c =
    rw (opened_some c.args.v c.args.lamps c.args.row c.args.day c.if-day-row.false)
    (writes_fails _ c.in_err-end_row.ensures c.from_residual.ensures)

pub returns-in_err-put_idle-clause-text : goal.returns-in_err-put_idle-clause-text
returns-in_err-put_idle-clause-text g c =
    rw (opened_some c.args.v c.args.lamps c.args.row c.args.day c.if-day-row.false)
    (writes_then c.in_ok-end_row.ensures
    (writes_fails _ (rw c.span_of-span.ensures.span at c.in_err-put_idle.ensures)
    c.from_residual-in_err-put_idle.ensures))

pub returns-in_err-put_row-clause-text : goal.returns-in_err-put_row-clause-text
returns-in_err-put_row-clause-text g c =
    rw (opened_some c.args.v c.args.lamps c.args.row c.args.day c.if-day-row.false)
    (writes_then c.in_ok-end_row.ensures
    (writes_then (rw c.span_of-span.ensures.span at c.in_ok-put_idle.ensures)
    (writes_failed (rw c.span_of-span.ensures.span at c.in_err-put_row.ensures)
    c.from_residual-in_err-put_row.ensures)))

pub returns-clause-text : goal.returns-clause-text
returns-clause-text g c =
    rw (opened_some c.args.v c.args.lamps c.args.row c.args.day c.if-day-row.false)
    (writes_all _ (Appends-trans _ _ _ _ _ c.in_ok-end_row.ensures.whole
    (Appends-trans _ _ _ _ _ (rw c.span_of-span.ensures.span at c.in_ok-put_idle.ensures.whole) (rw
    c.span_of-span.ensures.span at c.in_ok-put_row.ensures.whole))))
