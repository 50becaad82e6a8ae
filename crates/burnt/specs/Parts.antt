-- What `burnt` writes for a command line, part by part (RULES, Floor log and The programs).
--   part_told a b way log    what a part writes, of a log that begins with b, as the report `way` has it
--   page_told a b q log      the three parts of a page: a survey, which finds how many seconds the log lasts, the
--                            picture, which knows these, and the table
--   asked_told a b log       what is asked for: a page, or the one part of lines or of comma-separated values
--   stray_said s             what is said of a line that does not belong; nothing where each does
--   are_alike e f            two readings of a log ended alike: after as many seconds and lines, with the same words on
--                            what was not played, and on a line that does not belong
-- Assumes nothing.
use Rattle.std.specs.Prelude.{ℕ, ◌==◌, Bool, ◌&&◌, List, [], ◌++◌, Option, Some, None, option_map}
use Rattle.std.specs.Str.{bytes_eq}
use Rattle.command.specs.Asked.{AskedFor}
use Rattle.command.specs.declared.asked.Shape.{Shape}
use Rattle.command.specs.declared.asked.Shape.TheVariants as shape
use Rattle.floorlog.specs.Unplayed.{unplayed_text}
use Rattle.formfile.specs.declared.Begun.{Begun}
use Rattle.program.specs.Joined.{files_asked}
use Rattle.recorded.specs.Following.{FirstStray, stray_seen, stray_text}
use Rattle.report.specs.Reports.{begun_text, sheet_new, table_new}
use Rattle.report.specs.declared.page.Query.{Query}
use Rattle.report.specs.declared.Report.{Report}
use Rattle.report.specs.declared.Report.TheVariants.{Lines, Csv, Survey, Picture, Table}
use Rattle.burnt.specs.Asked.{query_of}
use Rattle.burnt.specs.LogTold.{told, log_seconds}
use Rattle.burnt.specs.declared.telling.LogEnding.{LogEnding}

abbrev pub part_told : AskedFor → Begun → Report → List ℕ → List ℕ
part_told a b way log = told b.device b.sum (begun_text way a.form (files_asked a)) way log

abbrev pub page_told : AskedFor → Begun → Query → List ℕ → List ℕ
page_told a b q log =
    part_told a b Survey log
    ++ (part_told a b (Picture (sheet_new q (log_seconds b.device b.sum log))) log
    ++ part_told a b (Table (table_new q)) log)

abbrev pub told_as : Shape → AskedFor → Begun → List ℕ → List ℕ
told_as shape.Lines a b log = part_told a b Lines log
told_as shape.Page a b log = page_told a b (query_of a b.device) log
told_as shape.Csv a b log = part_told a b (Csv (query_of a b.device)) log

abbrev pub asked_told : AskedFor → Begun → List ℕ → List ℕ
asked_told a b log = told_as a.shape a b log

abbrev pub stray_said : Option FirstStray → List ℕ
stray_said None = []
stray_said (Some s) = stray_text s

abbrev pub are_alike : LogEnding → LogEnding → Bool
are_alike e f =
    (((e.seconds == f.seconds) && (e.lines == f.lines))
    && bytes_eq (stray_said (option_map stray_seen e.ending.stray)) (stray_said (option_map stray_seen f.ending.stray)))
    && bytes_eq (unplayed_text e.ending.unplayed) (unplayed_text f.ending.unplayed)
