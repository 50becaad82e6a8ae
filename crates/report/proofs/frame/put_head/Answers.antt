use Rattle.report.specs.Frame.{head}
use Rattle.report.proofs.frame.put_head.Goals as goal

pub returns : goal.returns
unfolding head
returns g c = c.put.ensures
