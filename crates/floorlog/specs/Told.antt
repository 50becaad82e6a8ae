-- The seconds of an event, and what it leaves of the places.
--   seconds_of e        the seconds that an event lets pass
--   places_after legal n cs   the connections after n seconds, if the record is legal; else as they are
--   Drives n d after    the places of the record `after` are those of d, n seconds later, but for the place of the log
--                       (RULES, Floor log)
-- Assumes nothing.
use Rattle.std.specs.Prelude.{ℕ, ◌≡◌, Bool, List, map, set, if◌then◌else◌}
use Rattle.record.specs.Legal.{is_legal}
use Rattle.record.specs.Places.{connection_at}
use Rattle.record.specs.declared.types.Connection.{Connection}
use Rattle.record.specs.declared.types.Device.{Device}
use Rattle.clock.specs.Second.{times, connection_second}
use Rattle.floorlog.specs.Events.{LogEvent, passes}
use Rattle.floorlog.specs.Doing.{log_place}

abbrev pub seconds_of : LogEvent → ℕ
seconds_of (passes n) = n
seconds_of e = 0

abbrev pub places_after : Bool → ℕ → List Connection → List Connection
places_after legal n cs = if legal then map (times connection_second n) cs else cs

abbrev pub Drives : ℕ → Device → Device → Type 0
Drives n d after =
    set (places_after (is_legal d) n d.connections) log_place (connection_at after log_place) ≡ after.connections
