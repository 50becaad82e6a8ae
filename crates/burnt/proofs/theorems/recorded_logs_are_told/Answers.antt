use Rattle.burnt.proofs.HostsTold.{host_told}
use Rattle.burnt.proofs.theorems.recorded_logs_are_told.Goals as goal

pub returns : goal.returns
returns c = λ b w h sum small ss typed kept. host_told b w h sum small ss typed kept
