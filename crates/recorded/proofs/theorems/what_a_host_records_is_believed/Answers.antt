use Rattle.recorded.proofs.Believed.{believed, front_believed}
use Rattle.recorded.proofs.theorems.what_a_host_records_is_believed.Goals as goal

pub returns-clause-whole : goal.returns-clause-whole
returns-clause-whole c = believed

pub returns-clause-cut : goal.returns-clause-cut
returns-clause-cut c = front_believed
