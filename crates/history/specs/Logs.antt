-- A log as lines (RULES, History of a board): each ends with LF, and what follows the last LF is no line. And
-- what makes it the history of a board: it begins with the header of file 1, each header and stated line has the sum of
-- all that came before it, the stored form first, a header the next number, and a stated line the count of lines since
-- the header.
--   Sayable es         each of the entries es can be said by a line
--   log_text es        the lines of the entries es, one after the other
--   entries_in log     the entry of each line that an LF ended
--   LogPosition           the state of a log: all the bytes so far, the number of the file, the lines since its header
--   begun_at form      its state at the beginning
--   past p e           its state after the entry e
--   FitsAt p e         the entry e fits this state of the log
--   IsHistory p es     each of the entries es fits where those before it leave the log
-- Assumes nothing.
use Rattle.std.specs.Prelude.{ℕ, ◌+◌, ◌≡◌, ◌≤◌, true, List, [], ◌∷◌, ◌++◌, map, Option}
use Rattle.text.specs.InTurn.{each_in_turn}
use Rattle.textio.specs.Lines.{lines_ended}
use Rattle.crc32.specs.Crc.{crc32_of}
use Rattle.history.specs.Entries.{LogEntry, header, call, stated, is_sayable_entry, IsTypedEntry, entry_line, entry_in}

abbrev pub Sayable : List LogEntry → Type 0
Sayable [] = Unit {0}
Sayable (e ∷ es) = IsTypedEntry e × (is_sayable_entry e ≡ true) × Sayable es

abbrev pub log_text : List LogEntry → List ℕ
log_text es = each_in_turn entry_line es

abbrev pub entries_in : List ℕ → List (Option LogEntry)
entries_in log = map entry_in (lines_ended [] log)

pub record LogPosition : Type 0 where
  pub before : List ℕ
  pub file : ℕ
  pub lines : ℕ

abbrev pub begun_at : List ℕ → LogPosition
begun_at form = record { before = form; file = 0; lines = 0 }

abbrev pub past : LogPosition → LogEntry → LogPosition
past p (header f s t) = record { before = p.before ++ entry_line (header f s t); file = f; lines = 0 }
past p e = record { before = p.before ++ entry_line e; file = p.file; lines = p.lines + 1 }

abbrev pub FitsAt : LogPosition → LogEntry → Type 0
FitsAt p (header f s t) = (f ≡ p.file + 1) × (s ≡ crc32_of p.before)
FitsAt p (call c) = 1 ≤ p.file
FitsAt p (stated n s shown) = (1 ≤ p.file) × (n ≡ p.lines) × (s ≡ crc32_of p.before)

abbrev pub IsHistory : LogPosition → List LogEntry → Type 0
IsHistory p [] = Unit {0}
IsHistory p (e ∷ es) = FitsAt p e × IsHistory (past p e) es
