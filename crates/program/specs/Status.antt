-- The status with which a program ends (RULES, The programs).
--   status_code s    the number that the system gets
-- Assumes nothing.
use Rattle.std.specs.Prelude.{ℕ}
use Rattle.program.specs.declared.status.Status.{Status}
use Rattle.program.specs.declared.status.Status.TheVariants.{Done, Failed, Usage, Strayed}

abbrev pub status_code : Status → ℕ
status_code Done = 0
status_code Failed = 1
status_code Usage = 2
status_code Strayed = 3
