-- One second (RULES, Time), as a second of the projector's own part and one of each connection (RULES, Places: one
-- clock).
--   times f n x              f applied n times to x
--   changed_where f ms l     the list l, changed by f where the marks ms are set
--   one_more x               a burning lamp gains one second, stopped at the limit
--   marks_in s o             the enabled marks of the lamps that there are (RULES, Lamps)
--   own_second s o           the own part a second later, under the settings s
--   connection_second c      the connection a second later: awaiting and failed age by one, and close at 30 seconds
--   second d                 the device a second later
-- The fault mark changes none of this.
-- Assumes nothing.
use Rattle.std.specs.Prelude.{ℕ, zero, suc, ◌+◌, ◌-◌, Bool, List, [], ◌∷◌, map, take, if◌then◌else◌, nat_le, nat_lt}
use Rattle.record.specs.Limits.{lamp_limit, age_end}
use Rattle.record.specs.Views.{power_seen, with_power, is_burning, marks_seen}
use Rattle.record.specs.declared.views.Power.{Power}
use Rattle.record.specs.declared.views.Power.TheVariants.{Off, WarmUp, On, Cooling}
use Rattle.record.specs.Updates.{with_seconds, with_age}
use Rattle.record.specs.Legal.{is_timed}
use Rattle.record.specs.Record.{closed}
use Rattle.record.specs.declared.types.Settings.{Settings}
use Rattle.record.specs.declared.types.Own.{Own}
use Rattle.record.specs.declared.types.Connection.{Connection}
use Rattle.record.specs.declared.types.Device.{Device}

unfoldable pub times : {A : Type 0} → (A → A) → ℕ → A → A
times f zero x = x
times f (suc n) x = f (times f n x)

unfoldable pub changed_where : {A : Type 0} → (A → A) → List Bool → List A → List A
changed_where f [] l = l
changed_where f (m ∷ ms) [] = []
changed_where f (m ∷ ms) (x ∷ l) = (if m then f x else x) ∷ changed_where f ms l

unfoldable pub one_more : ℕ → ℕ
one_more x = if nat_lt x lamp_limit then x + 1 else x

-- at 0 warm-up turns into on, cooling into off
abbrev pub power_second : Power → Power
power_second (WarmUp left) = if nat_le left 1 then On else WarmUp (left - 1)
power_second (Cooling left) = if nat_le left 1 then Off else Cooling (left - 1)
power_second p = p

abbrev pub marks_in : Settings → Own → List Bool
marks_in s o = take s.lamp_count (marks_seen o)

-- where they burn, each enabled lamp gains one (RULES, Lamps)
abbrev pub lamps_second : Power → List Bool → List ℕ → List ℕ
lamps_second p marks lamps = if is_burning p then changed_where one_more marks lamps else lamps

unfoldable pub own_second : Settings → Own → Own
own_second s o =
    with_seconds (with_power o (power_second (power_seen o))) (lamps_second (power_seen o) (marks_in s o) o.lamps)

unfoldable pub connection_second : Connection → Connection
connection_second c =
    if is_timed c.phase then (if nat_lt (c.age + 1) age_end then with_age c (c.age + 1) else closed) else c

unfoldable pub second : Device → Device
second d = record {
  settings = d.settings;
  own = own_second d.settings d.own;
  connections = map connection_second d.connections;
}
