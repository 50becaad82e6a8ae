-- What a record shows (RULES, Floor log: "one line with power and lamp seconds"), as a stated line has it.
--   lamp_shown x              a space and the seconds x of a lamp; lamps_shown, those of each
--   power_and_lamps n lamps   `power `, the power, ` lamps`, and the seconds of each lamp
--   device_shown d            that of a device
--   device_shown_most         it never needs more room
-- Assumes nothing.
use Rattle.std.specs.Prelude.{ℕ, List, ◌++◌, take, codes}
use Rattle.text.specs.InTurn.{each_in_turn}
use Rattle.numbers.specs.Decimal.{digits}
use Rattle.record.specs.declared.types.Device.{Device}

abbrev pub lamp_shown : ℕ → List ℕ
lamp_shown x = codes " " ++ digits x

abbrev pub lamps_shown : List ℕ → List ℕ
lamps_shown lamps = each_in_turn lamp_shown lamps

abbrev pub power_and_lamps : ℕ → List ℕ → List ℕ
power_and_lamps power lamps = codes "power " ++ digits power ++ codes " lamps" ++ lamps_shown lamps

abbrev pub device_shown : Device → List ℕ
device_shown d = power_and_lamps d.own.power (take d.settings.lamp_count d.own.lamps)

abbrev pub device_shown_most : ℕ
device_shown_most = 110
