use Rattle.stretches.proofs.Told.{stretches_tell}
use Rattle.stretches.proofs.any_history_tells_its_stretches.Goals as goal

pub returns : goal.returns
returns c = stretches_tell
