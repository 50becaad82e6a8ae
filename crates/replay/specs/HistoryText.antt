-- What `replay` prints for the history of a board (RULES, History of a board): for each line that belongs its number
-- and its reply, headers and stated lines too; after them one line with power and lamp seconds, as these lines left the
-- record; and last, if a line does not belong, which and why.
--   replied_line n s          the line n was replied s: its number, a space, the reply without CR or `-` for none, LF
--   entries_text n d es     this for each of the entries es, from the record d on, where n lines came before
--   device_after d es       the record after them
--   stray_ending s            which line does not belong, and why, if one does not
--   history_text n r d ls   what is printed for the lines ls, where n came before and r and d are the reader's state
--   recorded_text d sum log what is printed for a history that begins with the record d, of which the form has that sum
--   recorded_stray d sum log   its first line that does not belong
-- Assumes nothing.
use Rattle.std.specs.Prelude.{ℕ, ◌+◌, List, [], ◌∷◌, ◌++◌, codes, Option, Some, None}
use Rattle.numbers.specs.Decimal.{long_digits}
use Rattle.textio.specs.Lines.{LogLine}
use Rattle.record.specs.declared.types.Device.{Device}
use Rattle.floorlog.specs.Kept.{kept_lines}
use Rattle.floorlog.specs.LastLine.{last_device_line}
use Rattle.floorlog.specs.Outcomes.{reply_text}
use Rattle.history.specs.Entries.{LogEntry}
use Rattle.history.specs.declared.recorder.Recorder.{Recorder}
use Rattle.recorded.specs.Chain.{device_made, reply_made}
use Rattle.recorded.specs.Following.{chain_begun, belonging, FirstStray, stray_from, stray_text}

abbrev pub replied_line : ℕ → List ℕ → List ℕ
replied_line n s = long_digits n ++ codes " " ++ reply_text s ++ codes "\n"

unfoldable pub entries_text : ℕ → Device → List LogEntry → List ℕ
entries_text n d [] = []
entries_text n d (e ∷ es) = replied_line (n + 1) (reply_made d e) ++ entries_text (n + 1) (device_made d e) es

unfoldable pub device_after : Device → List LogEntry → Device
device_after d [] = d
device_after d (e ∷ es) = device_after (device_made d e) es

abbrev pub stray_ending : Option FirstStray → List ℕ
stray_ending None = []
stray_ending (Some s) = stray_text s ++ codes "\n"

abbrev pub end_text_of : Device → Option FirstStray → List ℕ
end_text_of d stray = last_device_line d ++ stray_ending stray

unfoldable pub history_text : ℕ → Recorder → Device → List LogLine → List ℕ
history_text n r d ls =
    let es = belonging r d ls in entries_text n d es ++ end_text_of (device_after d es) (stray_from n r d ls)

abbrev pub recorded_text : Device → ℕ → List ℕ → List ℕ
recorded_text d sum log = history_text 0 (chain_begun sum) d (kept_lines log)

abbrev pub recorded_stray : Device → ℕ → List ℕ → Option FirstStray
recorded_stray d sum log = stray_from 0 (chain_begun sum) d (kept_lines log)
