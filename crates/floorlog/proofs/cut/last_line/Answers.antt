-- no log ends so
use Rattle.textio.specs.declared.lines.Failure.TheVariants.{Read, Write, TooLong}
use Rattle.floorlog.proofs.NoLogPrints.{no_log_prints}
use Rattle.floorlog.proofs.cut.last_line.Goals as goal

pub returns-in-Read-clause-no_log : goal.returns-in-Read-clause-no_log
returns-in-Read-clause-no_log c = no_log_prints (Read c.in-Read.field-0)

pub returns-in-Write-clause-no_log : goal.returns-in-Write-clause-no_log
returns-in-Write-clause-no_log c = no_log_prints (Write c.in-Write.field-0)

pub returns-in-TooLong-clause-no_log : goal.returns-in-TooLong-clause-no_log
returns-in-TooLong-clause-no_log c = no_log_prints TooLong
