use Rattle.history.proofs.Logs.{log_back, log_whole, log_cut}
use Rattle.history.proofs.theorems.a_log_says_its_entries.Goals as goal

pub returns-clause-said : goal.returns-clause-said
returns-clause-said c = log_back

pub returns-clause-whole : goal.returns-clause-whole
returns-clause-whole c = log_whole

pub returns-clause-cut : goal.returns-clause-cut
returns-clause-cut c = log_cut
