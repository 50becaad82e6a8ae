-- What is told of a watched log: as lines, as comma-separated values, or as a page (RULES, Floor log). A page has three
-- parts, each told of the whole log: a survey, which writes nothing, a picture, and a table of the stretches.
--   begun_text r form logs            what stands before the first stretch, of a log in these files
--   told_text r lit from to           what is told of a stretch of the lamps whose marks of `lit` are set
--   report_told r lit from to         how the log is told on: a picture has the rows of that stretch, and knows the
--                                     longest; a table has begun with the first
--   ended_text r seconds n .. unplayed    the end of a log of the first kind, of so many seconds, with the totals of n
--                                     lamps; a page and a table say too what was not played of it, if anything was not
--   ended_until r seconds n .. lines stray    the end of one of the second kind, of so many lines that belong to it:
--                                     and what is said of the line that does not, if there is one
--   stray_line s                      that as a line
--   given_text s                      a text, or none, that the code is given;    texts_given   texts
-- Assumes nothing.
use Rattle.std.specs.Prelude.{ℕ, ◌-◌, nat_lt, Bool, false, ◌&&◌, ◌||◌, List, [], ◌++◌, codes, if◌then◌else◌}
use Rattle.std.specs.Prelude.{Option, Some, None, option_map, map}
use Rattle.std.specs.Borrow.{Bor}
use Rattle.report.specs.LampLines.{stretch_lines, total_lines}
use Rattle.report.specs.Days.{is_any_lit, row_none, stretch_drawn, row_drawn}
use Rattle.report.specs.Table.{csv_head, csv_row, rows_lit, csv_end, table_stretch, table_ended}
use Rattle.report.specs.Frame.{layout_of, page_begun, page_ended, page_ended_until}
use Rattle.report.specs.declared.Report.{Report}
use Rattle.report.specs.declared.Report.TheVariants.{Lines, Csv, Survey, Picture, Table}
use Rattle.report.specs.declared.page.Query.{Query}
use Rattle.report.specs.declared.page.Sheet.{Sheet}
use Rattle.report.specs.declared.page.Stretch.{Stretch}
use Rattle.report.specs.declared.table.StretchTable.{StretchTable}

-- before any stretch of a log of so many seconds
abbrev pub sheet_new : Query → ℕ → Sheet
sheet_new q seconds =
    record { query = q; seconds = seconds; row = row_none; longest = record { from = 0; to = 0 } }

abbrev pub table_new : Query → StretchTable
table_new q = record { query = q; is_begun = false }

abbrev pub begun_text : Report → Option (List ℕ) → List (List ℕ) → List ℕ
begun_text Lines form logs = []
begun_text (Csv q) form logs = csv_head
begun_text Survey form logs = []
begun_text (Picture p) form logs = page_begun p.query p.seconds form logs
begun_text (Table t) form logs = []

abbrev pub told_text : Report → List Bool → ℕ → ℕ → List ℕ
told_text Lines lit from to = stretch_lines 1 lit from to
told_text (Csv q) lit from to = rows_lit (csv_row q.began q.long from to) lit
told_text Survey lit from to = []
told_text (Picture p) lit from to = stretch_drawn (layout_of p.query p.seconds) p.row lit from to
told_text (Table t) lit from to = table_stretch t lit from to

-- the first of those that are equally long
abbrev pub longest_of : Stretch → List Bool → ℕ → ℕ → Stretch
longest_of s lit from to =
    if is_any_lit lit && nat_lt (s.to - s.from) (to - from) then record { from = from; to = to } else s

abbrev pub report_told : Report → List Bool → ℕ → ℕ → Report
report_told Lines lit from to = Lines
report_told (Csv q) lit from to = Csv q
report_told Survey lit from to = Survey
report_told (Picture p) lit from to = Picture (record p {
  row = row_drawn (layout_of p.query p.seconds) p.row lit from to;
  longest = longest_of p.longest lit from to;
})
report_told (Table t) lit from to = Table (record t { is_begun = t.is_begun || is_any_lit lit })

abbrev pub ended_text : Report → ℕ → ℕ → List ℕ → List ℕ → List ℕ → Option (List ℕ) → List ℕ
ended_text Lines seconds lamps starts burnt lasts unplayed = total_lines lamps starts burnt lasts
ended_text (Csv q) seconds lamps starts burnt lasts unplayed = csv_end q.began seconds unplayed
ended_text Survey seconds lamps starts burnt lasts unplayed = []
ended_text (Picture p) seconds lamps starts burnt lasts unplayed =
    page_ended p seconds lamps starts burnt lasts unplayed
ended_text (Table t) seconds lamps starts burnt lasts unplayed = table_ended t.is_begun

abbrev pub stray_line : Option (List ℕ) → List ℕ
stray_line None = []
stray_line (Some s) = s ++ codes "\n"

abbrev pub given_text : Option (Bor (List ℕ)) → Option (List ℕ)
given_text s = option_map (λ b. b.now) s

abbrev pub texts_given : List (Bor (List ℕ)) → List (List ℕ)
texts_given ts = map (λ (b : Bor (List ℕ)). b.now) ts

abbrev pub ended_until : Report → ℕ → ℕ → List ℕ → List ℕ → List ℕ → ℕ → Option (List ℕ) → List ℕ
ended_until Lines seconds lamps starts burnt lasts lines stray =
    total_lines lamps starts burnt lasts ++ stray_line stray
ended_until (Csv q) seconds lamps starts burnt lasts lines stray = csv_end q.began seconds stray
ended_until Survey seconds lamps starts burnt lasts lines stray = []
ended_until (Picture p) seconds lamps starts burnt lasts lines stray =
    page_ended_until p seconds lamps starts burnt lasts lines stray
ended_until (Table t) seconds lamps starts burnt lasts lines stray = table_ended t.is_begun
