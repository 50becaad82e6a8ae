-- What the calls of a recorded log pass from a host to the recorder (RULES, The C face). What is too large for
-- its type there can't be said, and neither can what stands for it.
--   time_lent t     a start time: of no bytes none
--   byte_of n       a place or a lamp: 255 where it is larger
--   six_of ds       the error digits: six of 255 where they are not six
-- And what a call makes that plays a line: where the line does not belong, nothing.
--   misfit_number m       the number of why not: that of the call which the line says, else 3
--   line_played r d l room   the line l, given without its LF, made again on the record d, at the state r of the log:
--                         refused with a number, or the length of the reply, and the reply; log and record then
-- Assumes nothing.
use Rattle.std.specs.Prelude.{ℕ, List, [], ◌∷◌, Option, Some, None, if◌then◌else◌, nat_lt, ◌==◌, length, replicate}
use Rattle.std.specs.Prelude.{not, Result, Ok, Err}
use Rattle.text.specs.Rows.{◌when◌, by_rows}
use Rattle.text.specs.Outcomes.{CallResult, served_as, refused_as}
use Rattle.record.specs.Legal.{is_legal}
use Rattle.record.specs.declared.types.Device.{Device}
use Rattle.device.specs.Calls.{reply_room}
use Rattle.history.specs.Entries.{LogEntry}
use Rattle.history.specs.declared.recorder.Recorder.{Recorder}
use Rattle.recorded.specs.Chain.{Misfit, refused_with, entry_told, made_told, device_made, reply_made, log_made}

unfoldable pub time_lent : List ℕ → Option (List ℕ)
time_lent [] = None
time_lent (b ∷ t) = Some (b ∷ t)

unfoldable pub byte_of : ℕ → ℕ
byte_of n = if nat_lt n 255 then n else 255

unfoldable pub six_of : List ℕ → List ℕ
six_of ds = if length ds == 6 then ds else replicate 6 255

-- ---- a line that is played

abbrev pub misfit_number : Misfit → ℕ
misfit_number (refused_with n) = n
misfit_number m = 3

-- the entry e of the line l, where it is made, or else why not
abbrev pub entry_played : Recorder → Device → LogEntry → List ℕ → Result ℕ Misfit
    → CallResult ℕ ℕ (Recorder × Device)
entry_played r d e l (Ok n) = served_as n (reply_made d e) (log_made r d e l, device_made d e)
entry_played r d e l (Err why) = refused_as (r, d) (misfit_number why)

-- the entry that the line l says, where it fits, or else why not
abbrev pub line_fitted : Recorder → Device → List ℕ → Result LogEntry Misfit
    → CallResult ℕ ℕ (Recorder × Device)
line_fitted r d l (Ok e) = entry_played r d e l (made_told d e)
line_fitted r d l (Err why) = refused_as (r, d) (misfit_number why)

unfoldable pub line_played : Recorder → Device → List ℕ → ℕ → CallResult ℕ ℕ (Recorder × Device)
line_played r d l room =
    by_rows ((1 when not (is_legal d)) ∷ (2 when nat_lt room reply_room) ∷ []) (refused_as (r, d))
    (line_fitted r d l (entry_told r d l))
