use Rattle.report.specs.Frame.{lamp_cells}
use Rattle.report.proofs.frame.put_lamp_cells.Goals as goal

pub returns : goal.returns
unfolding lamp_cells
returns g c = c.fill.ensures
