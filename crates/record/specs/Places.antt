-- The places for controllers (RULES, Places): each has its own random number, collected bytes, mark, age and phase, and
-- all share the settings, the own part and the clock.
--   no_connection          what an array of connections has past its end; no result holds it
--   connection_at d p      the connection at place p
--   with_place d o p c     the device with that own part, and the connection c at place p
--   is_closed c              the connection is closed
--   lowest_closed cs         the lowest closed place, or their number where none is closed
-- Assumes nothing.
use Rattle.std.specs.Prelude.{ℕ, suc, Bool, List, [], ◌∷◌, set, if◌then◌else◌, slice_index_or, ◌==◌}
use Rattle.record.specs.Limits.{phase_closed}
use Rattle.record.specs.declared.types.Own.{Own}
use Rattle.record.specs.declared.types.Connection.{Connection}
use Rattle.record.specs.declared.types.Device.{Device}

abbrev pub no_connection : Connection
no_connection = record {
  phase = phase_closed;
  age = 0;
  random = 0;
  line = record { overlong = 0; held = 0; bytes = [] };
}

abbrev pub connection_at : Device → ℕ → Connection
connection_at d p = slice_index_or d.connections p no_connection

abbrev pub with_place : Device → Own → ℕ → Connection → Device
with_place d o p c = record { settings = d.settings; own = o; connections = set d.connections p c }

abbrev pub is_closed : Connection → Bool
is_closed c = c.phase == phase_closed

unfoldable pub lowest_closed : List Connection → ℕ
lowest_closed [] = 0
lowest_closed (c ∷ cs) = if is_closed c then 0 else suc (lowest_closed cs)
