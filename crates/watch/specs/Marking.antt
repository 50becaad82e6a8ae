-- A floor log that is watched for its lamps has one form of line more than one that is replayed; every other line is
-- what it is there. `M`, a space, a lamp's number from 1, a space, 0 or 1 is the mark call. No projector has more than
-- eight lamps, so the number is one digit.
--   is_mark_line l    l has that form
--   mark_said l       the index of the lamp that it names, from 0, and the mark; or none
--   WatchedLogEvent        an event of such a log
--   floor_event l     the event of the line l
--   watched_said e    the event e of the code, as a WatchedLogEvent
--   done_by d e       the device after the event e
--   watched_answer d e    the number of its call; None for a line of no form
--   seconds_by e      the seconds that the event e lets pass
--   floor_step d e    both, as a step of the log;    floor_steps d es   the steps of the events es, from d on
-- Assumes nothing.
use Rattle.std.specs.Prelude.{ℕ, ◌-◌, Bool, ◌&&◌, List, [], ◌∷◌, length, if◌then◌else◌, ◌==◌, Option, Some, None}
use Prim.Native.Char.{code}
use Rattle.text.specs.Outcomes.{call_number}
use Rattle.text.specs.Words.{◌is◌, ◌from◌to◌}
use Rattle.words.specs.Bytes.{◌at◌}
use Rattle.record.specs.HostCalls.{mark_set}
use Rattle.record.specs.Refusals.{refusal_number}
use Rattle.record.specs.declared.types.Device.{Device}
use Rattle.floorlog.specs.Events.{LogEvent, event_said, event}
use Rattle.floorlog.specs.Doing.{event_result}
use Rattle.floorlog.specs.Told.{seconds_of}
use Rattle.floorlog.specs.Unplayed.{answer}
use Rattle.watch.specs.Watching.{Step}
use Rattle.watch.specs.declared.marking.WatchedEvent.{WatchedEvent}
use Rattle.watch.specs.declared.marking.WatchedEvent.TheVariants.{Logged, Marked}

abbrev pub is_mark_line : List ℕ → Bool
is_mark_line l =
    length l == 5 && l at 0 is "M" && l at 1 is " " && l at 2 from "1" to "9" && l at 3 is " "
    && l at 4 from "0" to "1"

unfoldable pub mark_said : List ℕ → Option (ℕ × Bool)
mark_said l = if is_mark_line l then Some ((l at 2) - code "1", l at 4 is "1") else None

pub data WatchedLogEvent : Type 0 where
  logged : LogEvent → WatchedLogEvent
  marked : (lamp : ℕ) (mark : Bool) → WatchedLogEvent

abbrev pub event_by : Option (ℕ × Bool) → LogEvent → WatchedLogEvent
event_by (Some (lamp, mark)) e = marked lamp mark
event_by None e = logged e

unfoldable pub floor_event : List ℕ → WatchedLogEvent
floor_event l = event_by (mark_said l) (event l)

abbrev pub watched_said : WatchedEvent → WatchedLogEvent
watched_said (Logged e) = logged (event_said e)
watched_said (Marked lamp mark) = marked lamp mark

unfoldable pub done_by : Device → WatchedLogEvent → Device
done_by d (logged e) = (event_result d e).leaves
done_by d (marked lamp mark) = (mark_set d lamp mark).leaves

abbrev pub watched_answer : Device → WatchedLogEvent → Option ℕ
watched_answer d (logged e) = answer d e
watched_answer d (marked lamp mark) = Some (call_number refusal_number (mark_set d lamp mark))

abbrev pub seconds_by : WatchedLogEvent → ℕ
seconds_by (logged e) = seconds_of e
seconds_by (marked lamp mark) = 0

abbrev pub floor_step : Device → WatchedLogEvent → Step
floor_step d e = record { device = done_by d e; seconds = seconds_by e }

abbrev pub floor_steps : Device → List WatchedLogEvent → List Step
floor_steps d [] = []
floor_steps d (e ∷ es) = floor_step d e ∷ floor_steps (done_by d e) es
