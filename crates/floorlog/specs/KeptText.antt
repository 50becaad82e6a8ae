-- What the clauses say of a `KeptLine`.
--   kept_text k     what is kept of the line
--   kept_line k     what is kept of the line, and whether an LF ended it
-- Assumes nothing.
use Rattle.std.specs.Prelude.{ℕ, List, take}
use Rattle.textio.specs.Lines.{LogLine}
use Rattle.floorlog.specs.declared.kept.KeptLine.{KeptLine}

abbrev pub kept_text : KeptLine → List ℕ
kept_text k = take k.held k.bytes

abbrev pub kept_line : KeptLine → LogLine
kept_line k = record { text = kept_text k; ended = k.ended }
