use Rattle.replay.proofs.HostsReplayed.{host_replays}
use Rattle.replay.proofs.theorems.recorded_logs_are_replayed.Goals as goal

pub returns : goal.returns
returns c = λ d sum small ss typed kept. host_replays d sum small ss typed kept
