-- The last line that is printed for a log: the power and the lamps' seconds (RULES, Floor log).
--   last_line_of power lamps  the line for this power and these lamps
--   last_device_line d        the line for the device d
-- Assumes nothing.
use Rattle.std.specs.Prelude.{ℕ, List, ◌++◌, take, codes}
use Rattle.record.specs.declared.types.Device.{Device}
use Rattle.history.specs.Shown.{power_and_lamps}

unfoldable pub last_line_of : ℕ → List ℕ → List ℕ
last_line_of power lamps = power_and_lamps power lamps ++ codes "\n"

abbrev pub last_device_line : Device → List ℕ
last_device_line d = last_line_of d.own.power (take d.settings.lamp_count d.own.lamps)
