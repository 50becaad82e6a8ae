use Rattle.stretches.proofs.WholeLogTold.{log_watched}
use Rattle.stretches.proofs.watched_logs_tell_stretches.Goals as goal

pub returns : goal.returns
returns c = log_watched
