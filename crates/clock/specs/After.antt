-- What n seconds leave, in closed form, for the contracts of the helpers that compute it. No rule: that this is
-- n times one second is proved (proofs/InOneGo.antt, proofs/LampsByPlace.antt).
--   power_after n p                                      the power
--   lamp_after n lit x                                   the seconds of a lamp within the limit that had x
--   lamps_after n p marks lamps                          the lamps, those whose marks are set
--   own_after s o n                                      the own part
--   parts_after n d                                      the device, a part at a time
-- Assumes nothing.
use Rattle.std.specs.Prelude.{ℕ, ◌+◌, ◌-◌, min, Bool, List, map, if◌then◌else◌, nat_lt}
use Rattle.record.specs.Limits.{lamp_limit}
use Rattle.record.specs.Views.{power_seen, with_power, is_burning}
use Rattle.record.specs.declared.views.Power.{Power}
use Rattle.record.specs.declared.views.Power.TheVariants.{Off, WarmUp, On, Cooling}
use Rattle.record.specs.Updates.{with_seconds}
use Rattle.record.specs.declared.types.Settings.{Settings}
use Rattle.record.specs.declared.types.Own.{Own}
use Rattle.record.specs.declared.types.Device.{Device}
use Rattle.clock.specs.Second.{times, changed_where, one_more, marks_in, own_second, connection_second}

abbrev pub power_after : ℕ → Power → Power
power_after n (WarmUp left) = if nat_lt n left then WarmUp (left - n) else On
power_after n (Cooling left) = if nat_lt n left then Cooling (left - n) else Off
power_after n p = p

abbrev pub lamp_after : ℕ → Bool → ℕ → ℕ
lamp_after n lit x = if lit then min lamp_limit (x + n) else x

abbrev pub lamps_after : ℕ → Power → List Bool → List ℕ → List ℕ
lamps_after n p marks lamps = if is_burning p then changed_where (times one_more n) marks lamps else lamps

abbrev pub own_after : Settings → Own → ℕ → Own
own_after s o n =
    with_seconds (with_power o (power_after n (power_seen o))) (lamps_after n (power_seen o) (marks_in s o) o.lamps)

abbrev pub parts_after : ℕ → Device → Device
parts_after n d = record {
  settings = d.settings;
  own = times (own_second d.settings) n d.own;
  connections = map (times connection_second n) d.connections;
}
