-- Stretches and what is told of them (RULES, Floor log): "A picture is 86,400, 604,800 or 2,678,400 wide: a unit is a
-- second"; "The bar's title tells the whole stretch"; "Bars are cut at the row's ends, each once".
--   lit from f until t tells s   of a stretch of the lamps whose marks of `lit` are set, from the second f up to t
--   bar_text x width title       a bar of the first lamp
--   open_row n m                 a row that is open, of the days after the day n up to the day m
--   bar_rows                     on a page that has the rows of the first two days
--   day_rows                     on a page that has the row of the first day
--   clock_rows                   on such a page of a log that began at a known moment
--   week_rows, month_rows        on a page of weeks, and one of months, that has the first row
--   thursday_rows, calendar_rows on such a page of a log that began at a known moment, with a burn that is long
--   first_week_rows              the first row of a log that began in mid-week
--   plain_page n r               a page of a log of n days, of which no clock is known, that has the row r
--   csv_rows                     as comma-separated values, of such a log
--   begun_rows, more_rows        in a page's table of the stretches: the first, and another one
--   line_rows                    as lines
--   AreTold r rows               each row holds of a report
--   EndsTold                     what the last row of comma-separated values says, and how a page's table ends
-- Assumes nothing.
use Prim.Native.String.{String}
use Rattle.std.specs.Prelude.{ℕ, ◌≡◌, ◌*◌, Bool, true, false, List, [], ◌∷◌, ◌++◌, codes, Option, Some, None}
use Rattle.std.specs.Prelude.{replicate}
use Rattle.report.specs.Reports.{told_text, ended_text, ended_until, table_new}
use Rattle.report.specs.Days.{row_none}
use Rattle.calendar.specs.declared.Moment.{Moment}
use Rattle.record.specs.declared.types.Text.{Text}
use Rattle.report.specs.declared.page.Projector.{Projector}
use Rattle.report.specs.declared.page.Query.{Query}
use Rattle.report.specs.declared.Report.{Report}
use Rattle.report.specs.declared.Report.TheVariants.{Csv, Picture, Table}
use Rattle.report.specs.declared.days.PageRow.{PageRow}

infix 30 ◌from◌until◌tells◌
pub record ToldStretch : Type 0 where
  pub lit : List Bool
  pub from : ℕ
  pub to : ℕ
  pub text : List ℕ

abbrev pub ◌from◌until◌tells◌ : List Bool → ℕ → ℕ → List ℕ → ToldStretch
ms from f until t tells s = record { lit = ms; from = f; to = t; text = s }

abbrev pub one_lamp : List Bool
one_lamp = true ∷ []

abbrev pub bar_text : String → String → String → List ℕ
bar_text x width title =
    codes "<rect class=\"l\" height=\"16\" y=\"1\" x=\"" ++ codes x ++ codes "\" width=\"" ++ codes width
    ++ codes "\"><title>" ++ codes title ++ codes "</title></rect>"

abbrev pub open_row : ℕ → ℕ → PageRow
open_row before last = record row_none { before = before; last = last }

-- a bar with a stripe
abbrev pub marked_text : String → String → String → List ℕ
marked_text x width title =
    bar_text x width title ++ codes "<rect class=\"m\" height=\"4\" y=\"7\" x=\"" ++ codes x
    ++ codes "\" width=\"" ++ codes width ++ codes "\"/>"

-- a row up to its bars, with the name, of a picture with that width, a band and lines
abbrev pub row_text : String → String → String → String → String → List ℕ
row_text name width x band lines =
    codes "<tr><th scope=\"row\">" ++ codes name ++ codes "</th><td class=\"n\"><span>lamp 1</span></td>"
    ++ codes "<td class=\"p\"><svg viewBox=\"0 0 " ++ codes width
    ++ codes " 18\" height=\"18\" preserveAspectRatio=\"none\" role=\"img\" "
    ++ codes "aria-label=\"when each lamp burnt on " ++ codes name ++ codes "\">"
    ++ codes "<rect class=\"b\" x=\"" ++ codes x ++ codes "\" width=\"" ++ codes band
    ++ codes "\" height=\"16\" y=\"1\"/><path class=\"h\" d=\"" ++ codes lines ++ codes "\"/>"

abbrev pub day_text : String → List ℕ
day_text name = row_text name "86400" "0" "86400" "M21600 1v16M43200 1v16M64800 1v16"

-- an hour; a second; the last second of a day; a whole day; the hour after noon of the second day; no second; no lamp
abbrev pub bar_rows : List ToldStretch
bar_rows =
    (one_lamp from 0 until 3600 tells bar_text "0" "3600" "lamp 1 from 0 to 3600: 3600 seconds")
    ∷ (one_lamp from 20 until 21 tells bar_text "20" "1" "lamp 1 from 20 to 21: 1 seconds")
    ∷ (one_lamp from 86399 until 86400 tells bar_text "86399" "1" "lamp 1 from 86399 to 86400: 1 seconds")
    ∷ (one_lamp from 0 until 86400 tells bar_text "0" "86400" "lamp 1 from 0 to 86400: 86400 seconds")
    ∷ (one_lamp from 129600 until 133200 tells bar_text "43200" "3600" "lamp 1 from 129600 to 133200: 3600 seconds")
    ∷ (one_lamp from 20 until 20 tells [])
    ∷ ((false ∷ []) from 0 until 300000 tells [])
    ∷ []

-- an hour on each side of midnight, cut there; the fourth day, and before it a line for the second and the third
abbrev pub day_rows : List ToldStretch
day_rows =
    (one_lamp from 82800 until 90000 tells
    bar_text "82800" "3600" "lamp 1 from 82800 to 90000: 7200 seconds"
    ++ codes "</svg></td><td>1 h 0 min</td></tr>\n" ++ day_text "day 2"
    ++ bar_text "0" "3600" "lamp 1 from 82800 to 90000: 7200 seconds")
    ∷ (one_lamp from 259200 until 259260 tells
    codes "</svg></td><td>0 h 0 min</td></tr>\n<tr><th scope=\"row\">day 2 to day 3</th>"
    ++ codes "<td colspan=\"3\">no lamp burnt</td></tr>\n" ++ day_text "day 4"
    ++ bar_text "0" "60" "lamp 1 from 259200 to 259260: 60 seconds")
    ∷ []

-- the log began on a Monday at six: its first hour is the clock's seventh, and its last hours are on Wednesday
abbrev pub clock_rows : List ToldStretch
clock_rows =
    (one_lamp from 0 until 3600 tells bar_text "21600" "3600" "lamp 1 from 0 to 3600: 3600 seconds")
    ∷ (one_lamp from 237600 until 237660 tells
    codes "</svg></td><td>0 h 0 min</td></tr>\n<tr><th scope=\"row\">Tue 2026-11-24 to Wed 2026-11-25</th>"
    ++ codes "<td colspan=\"3\">no lamp burnt</td></tr>\n" ++ day_text "Thu 2026-11-26"
    ++ bar_text "0" "60" "lamp 1 from 237600 to 237660: 60 seconds")
    ∷ []

-- an hour on each side of a midnight within the week, one bar; an hour on each side of the week's end, cut there
abbrev pub week_rows : List ToldStretch
week_rows =
    (one_lamp from 82800 until 90000 tells bar_text "82800" "7200" "lamp 1 from 82800 to 90000: 7200 seconds")
    ∷ (one_lamp from 601200 until 608400 tells
    bar_text "601200" "3600" "lamp 1 from 601200 to 608400: 7200 seconds"
    ++ codes "</svg></td><td>1 h 0 min</td></tr>\n"
    ++ row_text "day 8 to day 14" "604800" "0" "604800"
    "M86400 1v16M172800 1v16M259200 1v16M345600 1v16M432000 1v16M518400 1v16"
    ++ bar_text "0" "3600" "lamp 1 from 601200 to 608400: 7200 seconds")
    ∷ []

-- the log begins on a Thursday: its first week has four days, under their weekdays
abbrev pub first_week_rows : List ToldStretch
first_week_rows =
    (one_lamp from 0 until 60 tells
    row_text "Thu 2026-11-26 to Sun 2026-11-29" "604800" "259200" "345600" "M345600 1v16M432000 1v16M518400 1v16"
    ++ bar_text "259200" "60" "lamp 1 from 0 to 60: 60 seconds")
    ∷ []

-- that Thursday has a long burn: it is reported below its week
abbrev pub thursday_rows : List ToldStretch
thursday_rows =
    (one_lamp from 349200 until 349260 tells
    codes "</svg></td><td>2 h 0 min</td></tr>\n"
    ++ codes "<tr><th scope=\"row\">Thu 2026-11-26</th><td colspan=\"3\">a burn of more than 1 h</td></tr>\n"
    ++ row_text "Mon 2026-11-30 to Sun 2026-12-06" "604800" "0" "604800"
    "M86400 1v16M172800 1v16M259200 1v16M345600 1v16M432000 1v16M518400 1v16"
    ++ bar_text "3600" "60" "lamp 1 from 349200 to 349260: 60 seconds")
    ∷ []

-- an hour on each side of a month's end
abbrev pub month_rows : List ToldStretch
month_rows =
    (one_lamp from 2588400 until 2595600 tells
    bar_text "2588400" "3600" "lamp 1 from 2588400 to 2595600: 7200 seconds"
    ++ codes "</svg></td><td>1 h 0 min</td></tr>\n"
    ++ row_text "day 31 to day 60" "2678400" "0" "2592000" "M604800 1v16M1209600 1v16M1814400 1v16M2419200 1v16"
    ++ bar_text "0" "3600" "lamp 1 from 2588400 to 2595600: 7200 seconds")
    ∷ []

-- the same of a month of the calendar, where two hours are long
abbrev pub calendar_rows : List ToldStretch
calendar_rows =
    (one_lamp from 666000 until 673200 tells
    marked_text "2588400" "3600" "lamp 1 from 666000 to 673200: 7200 seconds, over midnight and over 1 h"
    ++ codes "</svg></td><td>1 h 0 min</td></tr>\n"
    ++ codes "<tr><th scope=\"row\">Mon 2026-11-30</th><td colspan=\"3\">a burn of more than 1 h</td></tr>\n"
    ++ row_text "Tue 2026-12-01 to Thu 2026-12-31" "2678400" "0" "2678400"
    "M604800 1v16M1209600 1v16M1814400 1v16M2419200 1v16"
    ++ marked_text "0" "3600" "lamp 1 from 666000 to 673200: 7200 seconds, over midnight and over 1 h")
    ∷ []

abbrev pub line_rows : List ToldStretch
line_rows =
    (one_lamp from 20 until 80 tells codes "lamp 1 from 20 to 80\n")
    ∷ ((true ∷ true ∷ []) from 0 until 1 tells codes "lamp 1 from 0 to 1\nlamp 2 from 0 to 1\n")
    ∷ ((false ∷ true ∷ []) from 0 until 1 tells codes "lamp 2 from 0 to 1\n")
    ∷ []

-- of no name, maker or model
abbrev pub no_text : Text
no_text = record { len = 0; bytes = [] }

abbrev pub unnamed : Projector
unnamed = record { name = no_text; maker = no_text; model = no_text }

abbrev pub plain_page : ℕ → PageRow → Report
plain_page days row = Picture (record {
  query = record { began = None; long = None; life = None; projector = unnamed };
  seconds = days * 86400;
  row = row;
  longest = record { from = 0; to = 0 };
})

-- of a log that began on 2026-11-23 at six, the day with the number 740,308
abbrev pub monday_at_six : Moment
monday_at_six = record { date = record { year = 2026; month = 11; day = 23 }; number = 740308; second = 21600 }

-- where a stretch of more than an hour is long
abbrev pub clock_query : Query
clock_query = record { began = Some monday_at_six; long = Some 1; life = None; projector = unnamed }

abbrev pub clock_page : ℕ → PageRow → Report
clock_page days row = Picture (record {
  query = clock_query;
  seconds = days * 86400;
  row = row;
  longest = record { from = 0; to = 0 };
})

-- of a log of 100 days that began on the first second of 2026-11-26
abbrev pub thursday_page : PageRow → Report
thursday_page row = Picture (record {
  query = record clock_query {
    began = Some (record { date = record { year = 2026; month = 11; day = 26 }; number = 740311; second = 0 });
  };
  seconds = 100 * 86400;
  row = row;
  longest = record { from = 0; to = 0 };
})

-- the first week of that log, with a burn of two hours on its first day
abbrev pub first_week : PageRow
first_week = record (open_row 0 4) { sum = 7200; long = true ∷ replicate 30 false }

-- the last of these goes from eleven in the evening to one, an hour on each side
abbrev pub csv_rows : List ToldStretch
csv_rows =
    (one_lamp from 20 until 80 tells codes "1,20,80,60,2026-11-23 06:00:20,2026-11-23 06:01:20,\r\n")
    ∷ ((false ∷ true ∷ []) from 0 until 3601 tells
    codes "2,0,3601,3601,2026-11-23 06:00:00,2026-11-23 07:00:01,over 1 h\r\n")
    ∷ (one_lamp from 61200 until 68400 tells
    codes "1,61200,68400,7200,2026-11-23 23:00:00,2026-11-24 01:00:00,over midnight and over 1 h\r\n")
    ∷ []

abbrev pub stretch_text : String → String → String → String → String → List ℕ
stretch_text lamp first last burnt note =
    codes "<tr><th scope=\"row\">lamp " ++ codes lamp ++ codes "</th><td>" ++ codes first ++ codes "</td><td>"
    ++ codes last ++ codes "</td><td>" ++ codes burnt ++ codes "</td><td>" ++ codes note ++ codes "</td></tr>\n"

-- of no lamp; the first row has the table's head above it
abbrev pub begun_rows : List ToldStretch
begun_rows =
    ((false ∷ []) from 0 until 60 tells [])
    ∷ ((false ∷ true ∷ []) from 0 until 3601 tells
    codes "<table><caption>Each stretch</caption><thead><tr><th scope=\"col\">lamp</th>"
    ++ codes "<th scope=\"col\">from</th><th scope=\"col\">to</th><th scope=\"col\">burnt</th>"
    ++ codes "<th scope=\"col\">note</th></tr></thead><tbody>\n"
    ++ stretch_text "2" "2026-11-23 06:00:00" "2026-11-23 07:00:01" "1 h 0 min (3601 s)" "over 1 h")
    ∷ []

-- over midnight, and once
abbrev pub more_rows : List ToldStretch
more_rows =
    (one_lamp from 64700 until 64860 tells
    stretch_text "1" "2026-11-23 23:58:20" "2026-11-24 00:01:00" "0 h 2 min (160 s)" "over midnight")
    ∷ []

abbrev pub AreTold : Report → List ToldStretch → Type 0
AreTold r [] = Unit {0}
AreTold r (row ∷ rows) = (told_text r row.lit row.from row.to ≡ row.text) × AreTold r rows

abbrev pub csv_ended : Option (List ℕ) → List ℕ
csv_ended said = ended_text (Csv clock_query) 3600 1 (0 ∷ []) (60 ∷ []) (60 ∷ []) said

pub record EndsTold : Type 0 where
  pub whole : csv_ended None ≡ codes ",,3600,,,2026-11-23 07:00:00,end of the log\r\n"
  pub unplayed : csv_ended (Some (codes "a \"b\"\nc\n"))
      ≡ codes ",,3600,,,2026-11-23 07:00:00,\"a \"\"b\"\" c\"\r\n"
  pub stray : ended_until (Csv clock_query) 3600 1 (0 ∷ []) (60 ∷ []) (60 ∷ []) 2 (Some (codes "line 3: no line end"))
      ≡ codes ",,3600,,,2026-11-23 07:00:00,\"line 3: no line end\"\r\n"
  pub none : ended_text (Table (table_new clock_query)) 3600 1 (0 ∷ []) (0 ∷ []) (0 ∷ []) None
      ≡ codes "<p>No lamp burnt.</p>\n</main></body></html>\n"
  pub some : ended_text (Table (record { query = clock_query; is_begun = true })) 3600 1 (0 ∷ []) (60 ∷ []) (60 ∷ [])
      None ≡ codes "</tbody></table>\n</main></body></html>\n"
