use Rattle.recorded.proofs.Histories.{history_back}
use Rattle.recorded.proofs.Played.{played_back, replies_back}
use Rattle.recorded.proofs.theorems.recorded_calls_play_back.Goals as goal

pub returns-clause-device : goal.returns-clause-device
returns-clause-device c = played_back

pub returns-clause-replied : goal.returns-clause-replied
returns-clause-replied c = replies_back

pub returns-clause-history : goal.returns-clause-history
returns-clause-history c = history_back
