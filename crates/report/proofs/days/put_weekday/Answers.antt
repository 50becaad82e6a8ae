use Rattle.std.proofs.Common.{subst}
use Rattle.textio.specs.Fronts.{WritesText}
use Rattle.report.proofs.days.put_weekday.Goals as goal

pub returns : goal.returns
returns g c = subst (WritesText _ _ _ _) c.weekday_name-name.ensures c.put_word.ensures
