use Rattle.recorded.proofs.Taken.{receive_alone}
use Rattle.recorded.proofs.theorems.what_is_taken_is_enough.Goals as goal

pub returns : goal.returns
returns c = receive_alone
