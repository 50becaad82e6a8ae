-- A lamp's seconds at two readings, and their difference (RULES, Service).
--   difference_of r     the later seconds minus the earlier, an integer: below 0 if the lamp went backwards
--   differences rs      the difference of each reading
--   IsBackwards r       the later seconds are below the earlier
--   IsForwards r        the later seconds are not below the earlier
-- Assumes nothing.
use Rattle.std.specs.Prelude.{◌≤◌, ◌<◌, List, map, ℤ, pos, ◌-ℤ◌}
use Rattle.service.specs.declared.LampSeconds.{LampSeconds}

abbrev pub difference_of : LampSeconds → ℤ
difference_of r = pos r.later -ℤ pos r.earlier

abbrev pub differences : List LampSeconds → List ℤ
differences rs = map difference_of rs

abbrev pub IsBackwards : LampSeconds → Type 0
IsBackwards r = r.later < r.earlier

abbrev pub IsForwards : LampSeconds → Type 0
IsForwards r = r.earlier ≤ r.later
