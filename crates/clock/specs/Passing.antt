-- Passing time (RULES, Time and The numbers a call gives).
--   seconds_most     the most seconds that one call lets pass
--   time_passed d n  the record n seconds later; refused where it is not legal
-- Assumes nothing.
use Rattle.std.specs.Prelude.{ℕ, not, [], ◌∷◌}
use Rattle.text.specs.Rows.{◌when◌, by_rows}
use Rattle.text.specs.Outcomes.{CallResult, served_as, refused_as}
use Rattle.record.specs.Legal.{is_legal}
use Rattle.record.specs.declared.types.Device.{Device}
use Rattle.record.specs.declared.refusal.Refusal.{Refusal}
use Rattle.record.specs.declared.refusal.Refusal.TheVariants.{NotLegal}
use Rattle.clock.specs.Second.{second, times}

abbrev pub seconds_most : ℕ
seconds_most = 4294967295

unfoldable pub time_passed : Device → ℕ → CallResult Refusal (Unit {0}) Device
time_passed d n =
    by_rows ((NotLegal when not (is_legal d)) ∷ []) (refused_as d) (served_as tt [] (times second n d))
