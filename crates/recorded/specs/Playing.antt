-- A log played back by the board's own calls (RULES, History of a board).
--   reply_memory         the reply memory that a player gives each call
--   played_call c        the call that it makes of a recorded one
--   is_at_its_place d c  an opening gets the place that was recorded
--   belongs d c          the call is served, and at that place
--   played d cs          the record after the recorded calls cs, from d on; none where one does not belong
--   replies_played d cs  the reply of each of these
--   entry_calls es       the calls among the entries of a log
--   all_said es          the entries of its lines, where each line says one
--   log_calls log        the calls that a log says, where each of its lines says an entry
--   log_played d log     the record after these;   log_replies d log   their replies
--   PlaysAs d cs log     the log plays back, from the record d on, as the calls cs were: it says what is recorded of
--                        them, gives the record and the replies that they gave, and demand 3's history of them
-- Assumes nothing.
use Rattle.std.specs.Prelude.{ℕ, ◌≡◌, Bool, true, ◌&&◌, List, [], ◌∷◌, map, replicate, if◌then◌else◌, ◌==◌}
use Rattle.std.specs.Prelude.{Option, Some, None}
use Rattle.std.specs.Option.{option_map}
use Rattle.words.specs.Codec.{◌>>=◌}
use Rattle.record.specs.declared.types.Device.{Device}
use Rattle.device.specs.Calls.{reply_room}
use Rattle.ours.specs.Board.{ours}
use Rattle.demands.specs.Calls.{Call, opens, closes, receives, passes, faults, reports, enables, after, run}
use Rattle.demands.specs.History.{Streams, history}
use Rattle.history.specs.Calls.{LogCall, opens as opened, closes as closed, receives as received, passes as passed}
use Rattle.history.specs.Calls.{faults as marked, reports as reported, enables as enabled}
use Rattle.history.specs.Entries.{LogEntry, call}
use Rattle.history.specs.Logs.{entries_in}
use Rattle.recorded.specs.Recorded.{is_served, recorded, replied_by, replies_of}

abbrev pub reply_memory : List ℕ
reply_memory = replicate reply_room 0

abbrev pub played_call : LogCall → Call
played_call (opened p random) = opens random reply_memory
played_call (closed p) = closes p
played_call (received p bs) = receives p bs reply_memory
played_call (passed n) = passes n
played_call (marked fault) = faults fault
played_call (reported errors) = reports errors
played_call (enabled lamp mark) = enables lamp mark

abbrev pub is_at_its_place : Device → LogCall → Bool
is_at_its_place d (opened p random) = ours.place_opened d random reply_memory == p
is_at_its_place d c = true

abbrev pub belongs : Device → LogCall → Bool
belongs d c = is_served d (played_call c) && is_at_its_place d c

abbrev pub played : Device → List LogCall → Option Device
played d [] = Some d
played d (c ∷ cs) = if belongs d c then played (after ours d (played_call c)) cs else None

abbrev pub replies_played : Device → List LogCall → List (List ℕ)
replies_played d [] = []
replies_played d (c ∷ cs) = replied_by d (played_call c) ∷ replies_played (after ours d (played_call c)) cs

-- ---- from the bytes of a log

abbrev pub entry_calls : List LogEntry → List LogCall
entry_calls [] = []
entry_calls (call c ∷ es) = c ∷ entry_calls es
entry_calls (e ∷ es) = entry_calls es

abbrev pub all_said : List (Option LogEntry) → Option (List LogEntry)
all_said [] = Some []
all_said (None ∷ es) = None
all_said (Some e ∷ es) = option_map (λ (l : List LogEntry). e ∷ l) (all_said es)

abbrev pub log_calls : List ℕ → Option (List LogCall)
log_calls log = option_map entry_calls (all_said (entries_in log))

abbrev pub log_played : Device → List ℕ → Option Device
log_played d log = log_calls log >>= λ cs. played d cs

abbrev pub log_replies : Device → List ℕ → Option (List (List ℕ))
log_replies d log = option_map (replies_played d) (log_calls log)

pub record PlaysAs (d : Device) (cs : List Call) (log : List ℕ) : Type 0 where
  pub calls : log_calls log ≡ Some (recorded d cs)
  pub device : log_played d log ≡ Some (run ours d cs)
  pub replied : log_replies d log ≡ Some (replies_of d cs)
  pub history : (w : Streams)
      → option_map (λ es. history ours d w (map played_call es)) (log_calls log) ≡ Some (history ours d w cs)
