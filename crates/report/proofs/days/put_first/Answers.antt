use Rattle.std.proofs.Common.{[]}
use Rattle.std.proofs.KnownBytes.{Appends-nil}
use Rattle.textio.proofs.Fronts.{writes_then, writes_fails, writes_all}
use Rattle.report.proofs.Drawn.{first_none, first_some}
use Rattle.report.proofs.days.put_first.Goals as goal

pub returns-then-day-rows : goal.returns-then-day-rows
returns-then-day-rows g c =
    rw (first_none c.args.began c.args.rows c.args.day c.if-day-rows.true) (writes_all [] (Appends-nil _))

pub returns-in_err-put_day : goal.returns-in_err-put_day
returns-in_err-put_day g c =
    rw (first_some c.args.began c.args.rows c.args.day c.if-day-rows.false)
    (writes_fails _ c.in_err-put_day.ensures c.from_residual.ensures)

pub returns : goal.returns
returns g c =
    rw (first_some c.args.began c.args.rows c.args.day c.if-day-rows.false)
    (writes_then c.in_ok-put_day.ensures c.put.ensures)
