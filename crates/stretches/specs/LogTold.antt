-- What a watched log reports of a lamp, compared with demand 3's history of the same log.
--   calls_by d e        the calls that an event of a floor log makes on our board, given the device d: a second `O`
--                       makes none (RULES, Places)
--   calls_of d es       the calls of the events es, one after the other
--   is_marked_in d k    the mark of the lamp at index k is set
--   stretches_in k ts   the stretches of the lamp at index k among ts, which are of all lamps (crate `watch`)
--   told_of k s es      the stretches of the lamp at index k that are reported with the steps es, from the state s on
--   burnt_of k s es     the seconds that the lamp at index k is reported to have burnt when the log has ended
--   StepsTold b w hs es what is promised of the report of the steps es, compared with the history hs
--   LogsWatched         that is kept of every floor log (crate `burnt` reports exactly this), whatever it begins with
--   RecordedWatched     it is kept of what is recorded of any calls, too (RULES, History of a board)
-- Assumes nothing.
use Rattle.std.specs.Prelude.{ℕ, ◌<◌, ◌≡◌, Bool, false, List, [], ◌∷◌, ◌++◌, length, if◌then◌else◌, slice_index_or}
use Rattle.record.specs.Views.{marks_seen}
use Rattle.record.specs.Places.{connection_at, is_closed}
use Rattle.record.specs.Wanted.{Wanted}
use Rattle.record.specs.declared.types.Device.{Device}
use Rattle.floorlog.specs.Events.{opens, receives, passes, closes, no_such}
use Rattle.floorlog.specs.Doing.{log_place}
use Rattle.ours.specs.Board.{ours}
use Rattle.demands.specs.Calls.{Call, opens as opens_at, receives as receivesAt, passes as passesBy}
use Rattle.demands.specs.Calls.{closes as closes_at, enables}
use Rattle.demands.specs.CountsSeconds.{Beginning, IsAccepted, start_marks, begun_by, history_of}
use Rattle.demands.specs.History.{HistoryEvent, burning_seconds, lamp_with}
use Rattle.history.specs.Entries.{LogEntry}
use Rattle.recorded.specs.Playing.{reply_memory, entry_calls}
use Rattle.recorded.specs.Recorded.{recorded}
use Rattle.watch.specs.Marking.{WatchedLogEvent, logged, marked, done_by}
use Rattle.watch.specs.CallSteps.{entry_steps}
use Rattle.watch.specs.Watching.{Step, Watching, watching_from}
use Rattle.watch.specs.Telling.{floor_events, log_steps, LitStretch, lit_stretches, after_log, burnt_after}
use Rattle.stretches.specs.Stretches.{Stretch, stretch_if, StretchesTell}

abbrev pub calls_by : Device → WatchedLogEvent → List Call
calls_by d (logged (opens r)) = if is_closed (connection_at d log_place) then opens_at r reply_memory ∷ [] else []
calls_by d (logged (receives bs)) = receivesAt log_place bs reply_memory ∷ []
calls_by d (logged (passes n)) = passesBy n ∷ []
calls_by d (logged closes) = closes_at log_place ∷ []
calls_by d (logged no_such) = []
calls_by d (marked lamp mark) = enables lamp mark ∷ []

abbrev pub calls_of : Device → List WatchedLogEvent → List Call
calls_of d [] = []
calls_of d (e ∷ es) = calls_by d e ++ calls_of (done_by d e) es

abbrev pub is_marked_in : Device → ℕ → Bool
is_marked_in d k = slice_index_or (marks_seen d.own) k false

abbrev pub stretches_in : ℕ → List LitStretch → List Stretch
stretches_in k [] = []
stretches_in k (t ∷ ts) = stretch_if (is_marked_in t.device k) t.from t.to ++ stretches_in k ts

abbrev pub told_of : ℕ → Watching → List Step → List Stretch
told_of k s es = stretches_in k (lit_stretches s es)

abbrev pub burnt_of : ℕ → Watching → List Step → ℕ
burnt_of k s es = slice_index_or (burnt_after s es) k 0

-- however a history begins, with a set-up or with a stored form that loads
pub record StepsTold (b : Beginning) (w : Wanted) (hs : List HistoryEvent) (es : List Step) : Type 0 where
  -- each lamp is reported
  pub count : (after_log (watching_from (begun_by ours b w).device) es).device.settings.lamp_count ≡ length w.lamps
  -- the stretches of each lamp are those of the history
  pub stretches : (k : ℕ) → k < length w.lamps
      → StretchesTell w (start_marks b w) k hs (told_of k (watching_from (begun_by ours b w).device) es)
  -- the seconds that it burnt are those of the history
  pub burnt : (k : ℕ) → k < length w.lamps
      → burnt_of k (watching_from (begun_by ours b w).device) es ≡ burning_seconds w (start_marks b w) k hs
  -- and so are the seconds that it has at the end
  pub lamps : (k : ℕ) → k < length w.lamps
      → slice_index_or (after_log (watching_from (begun_by ours b w).device) es).device.own.lamps k 0
      ≡ lamp_with (burning_seconds w (start_marks b w) k hs) (slice_index_or w.lamps k 0)

-- what an outside observer sees of a floor log
abbrev pub log_history : Beginning → Wanted → List ℕ → List HistoryEvent
log_history b w log = history_of ours b w (calls_of (begun_by ours b w).device (floor_events log))

abbrev pub LogsWatched : Type 0
LogsWatched = (b : Beginning) (w : Wanted) → IsAccepted ours b w → (log : List ℕ)
    → StepsTold b w (log_history b w log) (log_steps (begun_by ours b w).device log)

-- headers and stated lines may be between the calls
abbrev pub RecordedWatched : Type 0
RecordedWatched = (b : Beginning) (w : Wanted) → IsAccepted ours b w → (cs : List Call) (es : List LogEntry)
    → entry_calls es ≡ recorded (begun_by ours b w).device cs
    → StepsTold b w (history_of ours b w cs) (entry_steps (begun_by ours b w).device es)
