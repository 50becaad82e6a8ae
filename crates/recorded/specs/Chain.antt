-- A chain of files read line by line, each line where those before it left the reader (RULES, History of a board). The
-- reader keeps the recorder's three numbers, and the record.
--   Misfit               why a line does not belong;    why_seen w   of the code's reason
--   misfit r d e         why the entry e does not stand there, if it does not
--   entry_told r d l     the entry that the line l, given without its LF, says there, or else why not
--   entry_read t         the same of what the code's reader returns
--   made_told d e        the length of the reply of the entry e, made there, or else why it does not belong
--   made_seen t          the same of what the code's function returns
--   device_made d e      the record then
--   reply_made d e       the reply
--   is_made d e          it belongs;    log_made r d e l   the three numbers then, where the line l says e
--   Followed             a reader's state after some lines: the three numbers, the record, and the calls that they
--                        say with their replies
--   followed r d ls      its state after the lines ls, given without their LFs, if each belongs
--   HoldsFor p d e       the entry e is true of the record d, at the state p of the log: a call belongs, what is stated
--                        is shown, and a line more can be counted;    AllHold p d es   each where those before it leave
--                        both
-- Assumes nothing.
use Rattle.std.specs.Prelude.{ℕ, ◌+◌, ◌≡◌, ◌<◌, Bool, true, not, List, [], ◌∷◌, if◌then◌else◌, ◌==◌}
use Rattle.std.specs.Prelude.{Option, Some, None, Result, Ok, Err}
use Rattle.std.specs.Option.{option_or, option_map}
use Rattle.std.specs.Result.{result_ok}
use Rattle.text.specs.Scans.{is_same_by, itself}
use Rattle.words.specs.Codec.{◌>>=◌}
use Rattle.record.specs.Refusals.{refusal_number}
use Rattle.record.specs.declared.types.Device.{Device}
use Rattle.ours.specs.Board.{ours}
use Rattle.demands.specs.Calls.{after}
use Rattle.history.specs.Lines.{number_most}
use Rattle.history.specs.Calls.{LogCall}
use Rattle.history.specs.Entries.{LogEntry, header, call, stated, entry_seen, entry_in}
use Rattle.history.specs.Shown.{device_shown}
use Rattle.history.specs.Logs.{LogPosition, past}
use Rattle.history.specs.Recording.{read_past}
use Rattle.history.specs.declared.entry.Entry.{Entry}
use Rattle.history.specs.declared.recorder.Recorder.{Recorder}
use Rattle.recorded.specs.Recorded.{replied_by}
use Rattle.recorded.specs.Playing.{played_call, belongs}
use Rattle.recorded.specs.Played.{PlayTold, call_told}
use Rattle.recorded.specs.declared.chain.Why.{Why}
use Rattle.recorded.specs.declared.chain.Why.TheVariants.{Unended, SaysNothing, OtherFile, OtherSum, OtherCount}
use Rattle.recorded.specs.declared.chain.Why.TheVariants.{OtherState, OtherPlace, Refused}

pub data Misfit : Type 0 where
  unended : Misfit
  says_nothing : Misfit
  other_file : Misfit
  other_sum : Misfit
  other_count : Misfit
  other_state : Misfit
  other_place : Misfit
  refused_with : (number : ℕ) → Misfit

abbrev pub why_seen : Why → Misfit
why_seen Unended = unended
why_seen SaysNothing = says_nothing
why_seen OtherFile = other_file
why_seen OtherSum = other_sum
why_seen OtherCount = other_count
why_seen OtherState = other_state
why_seen OtherPlace = other_place
why_seen (Refused why) = refused_with (refusal_number why)

-- ---- whether an entry belongs where the reader is

-- of a header
abbrev pub misfit_header : Recorder → ℕ → ℕ → Option Misfit
misfit_header r f s =
    if not (f == r.file + 1) then Some other_file
    else if not (s == r.sum) then Some other_sum
    else None

-- of any other line
abbrev pub misfit_line : Recorder → Option Misfit
misfit_line r =
    if r.file == 0 then Some other_file
    else if r.lines == number_most then Some other_count
    else None

-- what is stated, beside that
abbrev pub misfit_stated : Recorder → Device → ℕ → ℕ → List ℕ → Option Misfit
misfit_stated r d n s shown =
    if not (n == r.lines) then Some other_count
    else if not (s == r.sum) then Some other_sum
    else if not (is_same_by itself shown (device_shown d)) then Some other_state
    else None

unfoldable pub misfit : Recorder → Device → LogEntry → Option Misfit
misfit r d (header f s t) = misfit_header r f s
misfit r d (call c) = misfit_line r
misfit r d (stated n s shown) = option_or (misfit_line r) (misfit_stated r d n s shown)

abbrev pub unless : Option Misfit → LogEntry → Result LogEntry Misfit
unless None e = Ok e
unless (Some why) e = Err why

abbrev pub said_there : Recorder → Device → Option LogEntry → Result LogEntry Misfit
said_there r d None = Err says_nothing
said_there r d (Some e) = unless (misfit r d e) e

abbrev pub entry_told : Recorder → Device → List ℕ → Result LogEntry Misfit
entry_told r d l = said_there r d (entry_in l)

abbrev pub entry_read : Result Entry Why → Result LogEntry Misfit
entry_read (Ok e) = Ok (entry_seen e)
entry_read (Err why) = Err (why_seen why)

-- ---- and made

abbrev pub call_made : PlayTold → Result ℕ Misfit
call_made t =
    if t.belonging then Ok t.length
    else if t.number == 0 then Err other_place
    else Err (refused_with t.number)

abbrev pub made_told : Device → LogEntry → Result ℕ Misfit
made_told d (call c) = call_made (call_told d c)
made_told d e = Ok 0

abbrev pub made_seen : Result ℕ Why → Result ℕ Misfit
made_seen (Ok n) = Ok n
made_seen (Err why) = Err (why_seen why)

abbrev pub device_made : Device → LogEntry → Device
device_made d (call c) = after ours d (played_call c)
device_made d e = d

abbrev pub reply_made : Device → LogEntry → List ℕ
reply_made d (call c) = replied_by d (played_call c)
reply_made d e = []

abbrev pub is_made : Device → LogEntry → Bool
is_made d (call c) = belongs d c
is_made d e = true

abbrev pub log_made : Recorder → Device → LogEntry → List ℕ → Recorder
log_made r d e l = if is_made d e then read_past r e l else r

-- ---- line by line

pub record Followed : Type 0 where
  pub log : Recorder
  pub device : Device
  pub calls : List LogCall
  pub replies : List (List ℕ)

abbrev pub and_reply : Device → LogEntry → Followed → Followed
and_reply d (call c) f = record {
  log = f.log;
  device = f.device;
  calls = c ∷ f.calls;
  replies = reply_made d (call c) ∷ f.replies;
}
and_reply d e f = f

abbrev pub followed : Recorder → Device → List (List ℕ) → Option Followed
followed r d [] = Some (record { log = r; device = d; calls = []; replies = [] })
followed r d (l ∷ ls) =
    result_ok (entry_told r d l) >>= λ e. result_ok (made_told d e)
    >>= λ n. option_map (and_reply d e) (followed (log_made r d e l) (device_made d e) ls)

-- ---- what a history says of the record

abbrev pub HoldsFor : LogPosition → Device → LogEntry → Type 0
HoldsFor p d (header f s t) = Unit {0}
HoldsFor p d (call c) = (p.lines < number_most) × (belongs d c ≡ true)
HoldsFor p d (stated n s shown) = (p.lines < number_most) × (shown ≡ device_shown d)

abbrev pub AllHold : LogPosition → Device → List LogEntry → Type 0
AllHold p d [] = Unit {0}
AllHold p d (e ∷ es) = HoldsFor p d e × AllHold (past p e) (device_made d e) es
