use Rattle.std.proofs.Common.{ap, subst}
use Rattle.calendar.specs.Days.{weekday, weekday_name}
use Rattle.textio.specs.Fronts.{WritesText}
use Rattle.textio.proofs.Fronts.{writes_then, writes_fails}
use Rattle.report.specs.Days.{date_text}
use Rattle.report.proofs.days.put_dated.Goals as goal

pub returns-in_err-put_weekday : goal.returns-in_err-put_weekday
returns-in_err-put_weekday g c =
    writes_fails _
    (subst (WritesText _ _ _ _) (ap (λ n. weekday_name (weekday n)) c.saturating_add-number.ensures)
    c.in_err-put_weekday.ensures)
    c.from_residual.ensures

pub returns-in_err-put : goal.returns-in_err-put
returns-in_err-put g c =
    writes_then
    (subst (WritesText _ _ _ _) (ap (λ n. weekday_name (weekday n)) c.saturating_add-number.ensures)
    c.in_ok-put_weekday.ensures)
    (writes_fails _ c.in_err-put.ensures c.from_residual-in_err-put.ensures)

pub returns : goal.returns
returns g c =
    writes_then
    (subst (WritesText _ _ _ _) (ap (λ n. weekday_name (weekday n)) c.saturating_add-number.ensures)
    c.in_ok-put_weekday.ensures)
    (writes_then c.in_ok-put.ensures
    (subst (WritesText _ _ _ _) (ap date_text c.after-date.ensures) c.put_date.ensures))
