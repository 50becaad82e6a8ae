-- What a log does and what is printed for it, event by event (RULES, Floor log).
--   state_after d es    the device after these events
--   lines_printed n d es what is printed for these events, from the device d on; the first is line n + 1
--   sample_device       the sample set-up: W 20, C 60, one lamp at 0 s, input 11, texts empty, no password
--   replay_text d log   all that is printed for a log that begins with the device d
-- Assumes nothing.
use Rattle.std.specs.Prelude.{ℕ, ◌+◌, List, [], ◌∷◌, ◌++◌, codes}
use Rattle.record.specs.Wanted.{wanted_of}
use Rattle.record.specs.SetUp.{set_up}
use Rattle.record.specs.declared.types.Device.{Device}
use Rattle.floorlog.specs.LastLine.{last_device_line}
use Rattle.floorlog.specs.Events.{LogEvent, events}
use Rattle.floorlog.specs.Doing.{event_result, printed_line}

unfoldable pub state_after : Device → List LogEvent → Device
state_after d [] = d
state_after d (e ∷ es) = state_after (event_result d e).leaves es

unfoldable pub lines_printed : ℕ → Device → List LogEvent → List ℕ
lines_printed n d [] = []
lines_printed n d (e ∷ es) =
    printed_line (n + 1) e (event_result d e) ++ lines_printed (n + 1) (event_result d e).leaves es

unfoldable pub sample_device : Device
sample_device = (set_up (wanted_of [] [] [] [] [] (codes "11") (0 ∷ []) 20 60)).leaves

unfoldable pub replay_text : Device → List ℕ → List ℕ
replay_text d log = lines_printed 0 d (events log) ++ last_device_line (state_after d (events log))
