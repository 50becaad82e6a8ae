use Rattle.report.specs.Days.{lamp_name}
use Rattle.report.proofs.days.put_name.Goals as goal

pub returns : goal.returns
unfolding lamp_name
returns g c = c.fill.ensures
