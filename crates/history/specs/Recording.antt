-- The recorder (RULES, History of a board): the line of an entry, by the table of numbers, and what is kept for the
-- next one.
--   log_line_room        no line is longer, its LF included
--   cannot_follow r e    there is no file yet, or the count of its lines can't grow
--   entry_rows r e room  when an entry is refused, and with which number
--   recorded_by r e room   refused, or the line, and what is kept after it
--   counted r e sum      what is kept after a line that says e, where all up to its LF has that sum
--   advanced r e         what is kept after the line of the entry e
--   read_past r e l      what is kept after the line l, which is given without its LF and says e
--   header_next r t      the header of the next file;    stated_next r shown   a stated line
--   stated_by r d room   refused with 1 where the record d is not legal, else its stated line
--   Asked                what the recorder is asked to record;    asked_entry r a   the entry of that
--   recorder_begun form  what is kept before the first file
--   entries_recorded r asked   what is recorded of what is asked, each time with so much memory; refused is left out
--   bytes_recorded r asked     what is written
--   AreTyped asked          the calls asked have the numbers of the code's types
-- Assumes nothing.
use Rattle.std.specs.Prelude.{ℕ, ◌+◌, Bool, false, not, ◌||◌, List, [], ◌∷◌, ◌++◌, nat_lt, ◌==◌, Option, if◌then◌else◌}
use Rattle.std.specs.Prelude.{codes}
use Rattle.std.specs.Result.{is_ok}
use Rattle.text.specs.Rows.{RefusalRow, ◌when◌, by_rows}
use Rattle.text.specs.Outcomes.{CallResult, served_as, refused_as}
use Rattle.record.specs.Legal.{is_legal}
use Rattle.record.specs.declared.types.Device.{Device}
use Rattle.record.specs.declared.refusal.Refusal.{Refusal}
use Rattle.record.specs.declared.refusal.Refusal.TheVariants.{NotLegal, NoRoom, OutOfRange}
use Rattle.crc32.specs.Crc.{crc32_on, crc32_of}
use Rattle.history.specs.Calls.{LogCall, IsTyped}
use Rattle.history.specs.Lines.{number_most}
use Rattle.history.specs.Entries.{LogEntry, header, call, stated, is_sayable_entry, entry_line}
use Rattle.history.specs.Shown.{device_shown}
use Rattle.history.specs.declared.recorder.Recorder.{Recorder}

abbrev pub log_line_room : ℕ
log_line_room = 4097

abbrev pub cannot_follow : Recorder → LogEntry → Bool
cannot_follow r (header f s t) = false
cannot_follow r e = r.file == 0 || r.lines == number_most

abbrev pub entry_rows : Recorder → LogEntry → ℕ → List (RefusalRow Refusal)
entry_rows r e room =
    (NoRoom when nat_lt room log_line_room) ∷ (OutOfRange when not (is_sayable_entry e))
    ∷ (OutOfRange when cannot_follow r e) ∷ []

abbrev pub counted : Recorder → LogEntry → ℕ → Recorder
counted r (header f s t) sum = record { file = f; lines = 0; sum = sum }
counted r e sum = record { file = r.file; lines = r.lines + 1; sum = sum }

abbrev pub advanced : Recorder → LogEntry → Recorder
advanced r e = counted r e (crc32_on r.sum (entry_line e))

abbrev pub read_past : Recorder → LogEntry → List ℕ → Recorder
read_past r e l = counted r e (crc32_on r.sum (l ++ codes "\n"))

unfoldable pub recorded_by : Recorder → LogEntry → ℕ → CallResult Refusal (Unit {0}) Recorder
recorded_by r e room = by_rows (entry_rows r e room) (refused_as r) (served_as tt (entry_line e) (advanced r e))

abbrev pub header_next : Recorder → Option (List ℕ) → LogEntry
header_next r t = header (r.file + 1) r.sum t

abbrev pub stated_next : Recorder → List ℕ → LogEntry
stated_next r shown = stated r.lines r.sum shown

-- what the record of a device shows; refused first where it is not legal
unfoldable pub stated_by : Recorder → Device → ℕ → CallResult Refusal (Unit {0}) Recorder
stated_by r d room = if is_legal d then recorded_by r (stated_next r (device_shown d)) room else refused_as r NotLegal

-- ---- a run of the recorder: what it is asked to record, each time with so much memory

pub data Asked : Type 0 where
  begins : (time : Option (List ℕ)) → Asked
  makes : LogCall → Asked
  states : (shown : List ℕ) → Asked

abbrev pub asked_entry : Recorder → Asked → LogEntry
asked_entry r (begins t) = header_next r t
asked_entry r (makes c) = call c
asked_entry r (states s) = stated_next r s

abbrev pub recorder_begun : List ℕ → Recorder
recorder_begun form = record { file = 0; lines = 0; sum = crc32_of form }

abbrev pub entry_if_served : CallResult Refusal (Unit {0}) Recorder → LogEntry → List LogEntry
entry_if_served w e = if is_ok w.says then e ∷ [] else []

-- what is recorded, and what is written of it
abbrev pub entries_recorded : Recorder → List (Asked × ℕ) → List LogEntry
entries_recorded r [] = []
entries_recorded r (a ∷ more) =
    let e = asked_entry r a.0 in
    let w = recorded_by r e a.1 in entry_if_served w e ++ entries_recorded w.leaves more

abbrev pub bytes_recorded : Recorder → List (Asked × ℕ) → List ℕ
bytes_recorded r [] = []
bytes_recorded r (a ∷ more) =
    let w = recorded_by r (asked_entry r a.0) a.1 in w.bytes ++ bytes_recorded w.leaves more

abbrev pub IsTypedAsked : Asked → Type 0
IsTypedAsked (makes c) = IsTyped c
IsTypedAsked a = Unit {0}

abbrev pub AreTyped : List (Asked × ℕ) → Type 0
AreTyped [] = Unit {0}
AreTyped (a ∷ more) = IsTypedAsked a.0 × AreTyped more
