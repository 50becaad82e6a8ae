-- A log of the second kind followed line by line, from a reader's state on (RULES, History of a board): its lines
-- belong up to the first that does not, which is reported, and what follows that one is ignored.
--   chain_begun sum       a reader's state before a log of which the form has that sum
--   line_told r d l       what the line l says there, or why it does not belong: no LF ends it; it says nothing that
--                         stands there; or what it says, made again, is refused or gets another place
--   belonging r d ls      what the lines ls say, up to the first that does not belong
--   FirstStray            the number of a line that does not belong, and why;    stray_seen s   of the code's
--   stray_from n r d ls   the first of ls that does not, where n lines came before them
--   misfit_words w        what is said of the reason w
--   stray_text s          what is said of a line that does not belong, without LF
-- Assumes nothing.
use Rattle.std.specs.Prelude.{ℕ, ◌+◌, List, [], ◌∷◌, ◌++◌, codes, if◌then◌else◌, Option, Some, None, Result, Ok, Err}
use Rattle.numbers.specs.Decimal.{digits, long_digits}
use Rattle.textio.specs.Lines.{LogLine}
use Rattle.record.specs.declared.types.Device.{Device}
use Rattle.history.specs.Entries.{LogEntry}
use Rattle.history.specs.declared.recorder.Recorder.{Recorder}
use Rattle.recorded.specs.Chain.{Misfit, unended, says_nothing, other_file, other_sum, other_count, other_state}
use Rattle.recorded.specs.Chain.{other_place, refused_with, why_seen, entry_told, made_told, device_made, log_made}
use Rattle.recorded.specs.declared.stray.StrayLine.{StrayLine}

abbrev pub chain_begun : ℕ → Recorder
chain_begun sum = record { file = 0; lines = 0; sum = sum }

abbrev pub as_made : LogEntry → Result ℕ Misfit → Result LogEntry Misfit
as_made e (Ok n) = Ok e
as_made e (Err why) = Err why

abbrev pub and_made : Device → Result LogEntry Misfit → Result LogEntry Misfit
and_made d (Ok e) = as_made e (made_told d e)
and_made d (Err why) = Err why

unfoldable pub line_told : Recorder → Device → LogLine → Result LogEntry Misfit
line_told r d l = if l.ended then and_made d (entry_told r d l.text) else Err unended

abbrev pub said_then : Result LogEntry Misfit → (LogEntry → List LogEntry) → List LogEntry
said_then (Ok e) later = e ∷ later e
said_then (Err why) later = []

unfoldable pub belonging : Recorder → Device → List LogLine → List LogEntry
belonging r d [] = []
belonging r d (l ∷ ls) = said_then (line_told r d l) (λ e. belonging (log_made r d e l.text) (device_made d e) ls)

pub record FirstStray : Type 0 where
  pub line : ℕ
  pub why : Misfit

abbrev pub stray_seen : StrayLine → FirstStray
stray_seen s = record { line = s.line; why = why_seen s.why }

abbrev pub stray_or : Result LogEntry Misfit → ℕ → (LogEntry → Option FirstStray) → Option FirstStray
stray_or (Ok e) n later = later e
stray_or (Err why) n later = Some (record { line = n; why = why })

unfoldable pub stray_from : ℕ → Recorder → Device → List LogLine → Option FirstStray
stray_from n r d [] = None
stray_from n r d (l ∷ ls) =
    stray_or (line_told r d l) (n + 1) (λ e. stray_from (n + 1) (log_made r d e l.text) (device_made d e) ls)

-- ---- what is said of it

abbrev pub misfit_words : Misfit → List ℕ
misfit_words unended = codes "no line end"
misfit_words says_nothing = codes "no such line"
misfit_words other_file = codes "not the next file"
misfit_words other_sum = codes "another sum"
misfit_words other_count = codes "another count of lines"
misfit_words other_state = codes "the record shows something else"
misfit_words other_place = codes "another place was opened"
misfit_words (refused_with n) = codes "refused with " ++ digits n

unfoldable pub stray_text : FirstStray → List ℕ
stray_text s = codes "! line " ++ long_digits s.line ++ codes ": " ++ misfit_words s.why
