-- Why a form does not load (RULES, Stored form).
--   load_error_number e    its number, 20 to 23
-- Assumes nothing.
use Rattle.std.specs.Prelude.{ℕ}
use Rattle.stored.specs.declared.error.LoadError.{LoadError}
use Rattle.stored.specs.declared.error.LoadError.TheVariants.{OtherVersion, CutShort, LeftOver, NotLegal}

abbrev pub load_error_number : LoadError → ℕ
load_error_number OtherVersion = 20
load_error_number CutShort = 21
load_error_number LeftOver = 22
load_error_number NotLegal = 23
