-- The steps of a board's calls, at any place, and of a history, of which only a call can leave another record or let
-- seconds pass (RULES, History of a board).
--   seconds_of_call c    the seconds that a call lets pass
--   call_step d c        the step of the call c from the device d on;    call_steps d cs   the steps of the calls cs
--   still_step d         a step that leaves d, and lets no second pass
--   seconds_of_entry e   the seconds that what a line says lets pass
--   said_seconds l       the seconds that what the line l says lets pass; l is without its LF
--   entry_step d e       the step of what a line says;    entry_steps d es   the steps of what lines say
-- Assumes nothing.
use Rattle.std.specs.Prelude.{ℕ, List, [], ◌∷◌, Option, Some, None}
use Rattle.record.specs.declared.types.Device.{Device}
use Rattle.ours.specs.Board.{ours}
use Rattle.demands.specs.Calls.{Call, passes, after}
use Rattle.history.specs.Entries.{LogEntry, call, entry_in}
use Rattle.recorded.specs.Playing.{played_call}
use Rattle.recorded.specs.Chain.{device_made}
use Rattle.watch.specs.Watching.{Step}

abbrev pub seconds_of_call : Call → ℕ
seconds_of_call (passes n) = n
seconds_of_call c = 0

abbrev pub call_step : Device → Call → Step
call_step d c = record { device = after ours d c; seconds = seconds_of_call c }

abbrev pub call_steps : Device → List Call → List Step
call_steps d [] = []
call_steps d (c ∷ cs) = call_step d c ∷ call_steps (after ours d c) cs

abbrev pub still_step : Device → Step
still_step d = record { device = d; seconds = 0 }

abbrev pub seconds_of_entry : LogEntry → ℕ
seconds_of_entry (call c) = seconds_of_call (played_call c)
seconds_of_entry e = 0

abbrev pub seconds_of_said : Option LogEntry → ℕ
seconds_of_said (Some e) = seconds_of_entry e
seconds_of_said None = 0

abbrev pub said_seconds : List ℕ → ℕ
said_seconds l = seconds_of_said (entry_in l)

abbrev pub entry_step : Device → LogEntry → Step
entry_step d e = record { device = device_made d e; seconds = seconds_of_entry e }

abbrev pub entry_steps : Device → List LogEntry → List Step
entry_steps d [] = []
entry_steps d (e ∷ es) = entry_step d e ∷ entry_steps (device_made d e) es
