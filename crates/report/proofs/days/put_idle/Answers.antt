use Rattle.std.proofs.Common.{[]}
use Rattle.std.proofs.KnownBytes.{Appends-nil}
use Rattle.textio.proofs.Fronts.{writes_then, writes_fails, writes_all}
use Rattle.report.proofs.Drawn.{idle_none, idle_some}
use Rattle.report.proofs.days.put_idle.Goals as goal

pub returns-then-day-rows : goal.returns-then-day-rows
returns-then-day-rows g c =
    rw (idle_none c.args.began c.args.rows c.args.day c.if-day-rows.true) (writes_all [] (Appends-nil _))

pub returns-in_err-put : goal.returns-in_err-put
returns-in_err-put g c =
    rw (idle_some c.args.began c.args.rows c.args.day c.if-day-rows.false)
    (writes_fails _ c.in_err-put.ensures c.from_residual.ensures)

pub returns-in_err-put_days : goal.returns-in_err-put_days
returns-in_err-put_days g c =
    rw (idle_some c.args.began c.args.rows c.args.day c.if-day-rows.false)
    (writes_then c.in_ok-put.ensures
    (writes_fails _ c.in_err-put_days.ensures c.from_residual-in_err-put_days.ensures))

pub returns : goal.returns
returns g c =
    rw (idle_some c.args.began c.args.rows c.args.day c.if-day-rows.false)
    (writes_then c.in_ok-put.ensures
    (writes_then c.in_ok-put_days.ensures c.put-2.ensures))
