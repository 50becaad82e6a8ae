-- The host's calls: they replace the fault mark, or the six error digits (RULES, Time), or a lamp's enabled mark
-- (RULES, Lamps), and nothing else.
--   fault_set d m       the call that sets the fault mark: refused for an illegal record
--   errors_set d ds     the call that sets the error digits: refused for what is not six digits 0 to 2, too
--   is_no_lamp d k      there is no such lamp
--   is_none_left ms     no mark is raised
--   mark_set d k m      the lamp at place k with that mark: refused for no such lamp, for clearing the last mark, and
--                       unless power is off
-- Assumes nothing.
use Rattle.std.specs.List.{list_all}
use Rattle.std.specs.Prelude.{ℕ, set, Bool, not, ◌||◌, List, [], ◌∷◌, nat_le, ◌==◌}
use Rattle.text.specs.Flags.{is_lowered, flag_of}
use Rattle.text.specs.Rows.{◌when◌, by_rows}
use Rattle.text.specs.Outcomes.{CallResult, served_as, refused_as}
use Rattle.record.specs.Limits.{off}
use Rattle.record.specs.Rules.{is_error_list}
use Rattle.record.specs.Legal.{is_legal}
use Rattle.record.specs.Updates.{with_own, with_fault, with_errors, with_marks}
use Rattle.record.specs.declared.types.Device.{Device}
use Rattle.record.specs.declared.refusal.Refusal.{Refusal}
use Rattle.record.specs.declared.refusal.Refusal.TheVariants.{NotLegal, OutOfRange, NotOff}

unfoldable pub fault_set : Device → Bool → CallResult Refusal (Unit {0}) Device
fault_set d m =
    by_rows ((NotLegal when not (is_legal d)) ∷ []) (refused_as d)
    (served_as tt [] (with_own d (with_fault d.own (flag_of m))))

unfoldable pub errors_set : Device → List ℕ → CallResult Refusal (Unit {0}) Device
errors_set d ds =
    by_rows ((NotLegal when not (is_legal d)) ∷ (OutOfRange when not (is_error_list ds)) ∷ []) (refused_as d)
    (served_as tt [] (with_own d (with_errors d.own ds)))

abbrev pub is_no_lamp : Device → ℕ → Bool
is_no_lamp d k = nat_le d.settings.lamp_count k

abbrev pub is_none_left : List ℕ → Bool
is_none_left ms = list_all is_lowered ms

unfoldable pub mark_set : Device → ℕ → Bool → CallResult Refusal (Unit {0}) Device
mark_set d k m =
    by_rows
    ((NotLegal when not (is_legal d))
    ∷ (OutOfRange when (is_no_lamp d k || is_none_left (set d.own.enabled k (flag_of m))))
    ∷ (NotOff when not (d.own.power == off)) ∷ [])
    (refused_as d) (served_as tt [] (with_own d (with_marks d.own (set d.own.enabled k (flag_of m)))))
