use Rattle.stretches.proofs.WholeLogTold.{entries_watched}
use Rattle.stretches.proofs.recorded_logs_tell_stretches.Goals as goal

pub returns : goal.returns
returns c = entries_watched
