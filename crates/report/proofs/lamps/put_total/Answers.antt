use Rattle.report.specs.LampLines.{total_line}
use Rattle.report.proofs.lamps.put_total.Goals as goal

pub returns : goal.returns
unfolding total_line
returns g c = c.fill.ensures
