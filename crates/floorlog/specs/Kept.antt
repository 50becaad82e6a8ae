-- What is kept of a line of a log.
--   kept_most             how many bytes are kept of a line: all of one that has a form
--   kept l                what is kept of the line l
--   kept_lines log        what is kept of each line of a log
-- Assumes nothing.
use Rattle.std.specs.Prelude.{ℕ, List, map, take}
use Rattle.textio.specs.Lines.{LogLine, lines_in}

abbrev pub kept_most : ℕ
kept_most = 4097

abbrev pub kept : LogLine → LogLine
kept l = record { text = take kept_most l.text; ended = l.ended }

abbrev pub kept_lines : List ℕ → List LogLine
kept_lines log = map kept (lines_in log)
