use Rattle.history.proofs.EntriesBack.{entry_back}
use Rattle.history.proofs.Logs.{one_line}
use Rattle.history.proofs.OnlyLines.{only_line}
use Rattle.history.proofs.theorems.lines_say_what_they_were_written_for.Goals as goal

pub returns-clause-back : goal.returns-clause-back
returns-clause-back c = entry_back

pub returns-clause-one_line : goal.returns-clause-one_line
returns-clause-one_line c = one_line

pub returns-clause-only : goal.returns-clause-only
returns-clause-only c = only_line
