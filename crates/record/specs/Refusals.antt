-- Why a call is refused, and the number that it then gives (RULES, The numbers a call gives).
--   refusal_number r     the number of a refusal
-- Assumes nothing.
use Rattle.std.specs.Prelude.{ℕ}
use Rattle.record.specs.declared.refusal.Refusal.{Refusal}
use Rattle.record.specs.declared.refusal.Refusal.TheVariants.{NotLegal, NoRoom, OutOfRange, Closed, NoPlace, NotOff}

abbrev pub refusal_number : Refusal → ℕ
refusal_number NotLegal = 1
refusal_number NoRoom = 2
refusal_number OutOfRange = 3
refusal_number Closed = 4
refusal_number NoPlace = 6
refusal_number NotOff = 7
