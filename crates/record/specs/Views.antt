-- What the record's numbers mean (RULES, The legal record): total views, and how they are written back. Of a legal
-- record nothing is lost.
--   power_of power left              the power, with the seconds that are left of it
--   power_seen o                     of an own part
--   power_number p, power_left p     as the record has them
--   with_power o p                   the own part with that power
--   IsPower warm cool p              seconds are left of a warm-up and of a cooling, and no more than it lasts
--   is_burning p                          the lamps burn
--   IsPowerOf warm cool power left   the numbers are those of such a power
--   phase_of phase age random        the phase of a connection
--   phase_number p, phase_age p, phase_random p     as the record has them
--   with_phase c p                   the connection in that phase, with the line that it has
--   class_seen s                     the class of a set-up
--   marks_seen o                     whether each lamp is enabled; of the other flags `is_raised` says it
-- Assumes nothing.
use Rattle.std.specs.Prelude.{ℕ, ◌≤◌, ◌≡◌, Bool, true, false, List, map, if◌then◌else◌, ◌==◌}
use Rattle.text.specs.Flags.{is_raised}
use Rattle.record.specs.Limits.{off, on, cooling, warming, phase_closed, phase_awaiting, phase_open, phase_failed}
use Rattle.record.specs.Updates.{with_power_left}
use Rattle.record.specs.declared.types.Own.{Own}
use Rattle.record.specs.declared.types.Connection.{Connection}
use Rattle.record.specs.declared.types.Settings.{Settings}
use Rattle.words.specs.declared.class.ClassNumber.{ClassNumber}
use Rattle.words.specs.declared.class.ClassNumber.TheVariants.{One, Two}
use Rattle.record.specs.declared.views.Power.{Power}
use Rattle.record.specs.declared.views.Power.TheVariants.{Off, WarmUp, On, Cooling}
use Rattle.record.specs.declared.views.Phase.{Phase}
use Rattle.record.specs.declared.views.Phase.TheVariants.{Closed, Awaiting, Open, Failed}

abbrev pub power_of : (power left : ℕ) → Power
power_of power left =
    if power == warming then WarmUp left
    else if power == on then On
    else if power == cooling then Cooling left
    else Off

abbrev pub power_seen : Own → Power
power_seen o = power_of o.power o.left

abbrev pub power_number : Power → ℕ
power_number Off = off
power_number (WarmUp left) = warming
power_number On = on
power_number (Cooling left) = cooling

abbrev pub power_left : Power → ℕ
power_left (WarmUp left) = left
power_left (Cooling left) = left
power_left p = 0

abbrev pub with_power : Own → Power → Own
with_power o p = with_power_left o (power_number p) (power_left p)

abbrev pub IsPower : (warm cool : ℕ) → Power → Type 0
IsPower warm cool Off = Unit {0}
IsPower warm cool (WarmUp left) = (1 ≤ left) × (left ≤ warm)
IsPower warm cool On = Unit {0}
IsPower warm cool (Cooling left) = (1 ≤ left) × (left ≤ cool)

abbrev pub is_burning : Power → Bool
is_burning Off = false
is_burning (WarmUp left) = true
is_burning On = true
is_burning (Cooling left) = false

-- the numbers are those of a power, with as many seconds left as it may have
pub record IsPowerOf (warm cool power left : ℕ) : Type 0 where
  pub number : power_number (power_of power left) ≡ power
  pub seconds : power_left (power_of power left) ≡ left
  pub within : IsPower warm cool (power_of power left)

abbrev pub phase_of : (phase age random : ℕ) → Phase
phase_of phase age random =
    if phase == phase_awaiting then Awaiting age random
    else if phase == phase_open then Open random
    else if phase == phase_failed then Failed age random
    else Closed

abbrev pub phase_number : Phase → ℕ
phase_number Closed = phase_closed
phase_number (Awaiting age random) = phase_awaiting
phase_number (Open random) = phase_open
phase_number (Failed age random) = phase_failed

abbrev pub phase_age : Phase → ℕ
phase_age (Awaiting age random) = age
phase_age (Failed age random) = age
phase_age p = 0

abbrev pub phase_random : Phase → ℕ
phase_random Closed = 0
phase_random (Awaiting age random) = random
phase_random (Open random) = random
phase_random (Failed age random) = random

abbrev pub with_phase : Connection → Phase → Connection
with_phase c p = record { phase = phase_number p; age = phase_age p; random = phase_random p; line = c.line }

abbrev pub class_seen : Settings → ClassNumber
class_seen s = if s.class_number == 2 then Two else One

abbrev pub marks_seen : Own → List Bool
marks_seen o = map is_raised o.enabled
