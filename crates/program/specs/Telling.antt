-- Why a log is not reported to its end.
--   CutsOff writes long known c    the cause c may be, of a log of these bytes, where they are known: an error of a
--                                  read, one of the sink, or that the log is too long; that it changed only where they
--                                  are not
-- Assumes nothing.
use Rattle.std.specs.Prelude.{⊤, ℕ, ◌≡◌, List, None}
use Rattle.std.specs.declared.option.Option.{Option}
use Rattle.std.specs.declared.io.Error.{Error}
use Rattle.textio.specs.NextLine.{FailureComesOf}
use Rattle.program.specs.declared.telling.CutCause.{CutCause}
use Rattle.program.specs.declared.telling.CutCause.TheVariants.{Log, Changed}

abbrev pub CutsOff : (Error → Type 0) → (List ℕ → Type 0) → Option (List ℕ) → CutCause → Type 0
CutsOff writes long known (Log f) = FailureComesOf (λ e. ⊤) writes long known f
CutsOff writes long known Changed = known ≡ None
