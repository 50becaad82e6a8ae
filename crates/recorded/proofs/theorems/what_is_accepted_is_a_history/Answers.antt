use Rattle.recorded.proofs.Accepted.{accepted_is, is_accepted}
use Rattle.recorded.proofs.theorems.what_is_accepted_is_a_history.Goals as goal

pub returns-clause-accepted : goal.returns-clause-accepted
returns-clause-accepted c = accepted_is

pub returns-clause-each : goal.returns-clause-each
returns-clause-each c = is_accepted
