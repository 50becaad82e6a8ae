-- What stands around the rows of a page (RULES, Floor log): "one HTML document with no script in it".
--   layout_of q n what the rows follow, of a log of n seconds
--   head         the document's head and title
--   about_list p form logs   "projector, manufacturer, model", as the settings have them, and the files: `form`, or the
--                 sample set-up, and each `log`; `<`, `>` and `&` as HTML writes them
--   log_span began n   "from when to when and how long": of a log of n seconds
--   clock_text v  when the log began, where that is known, and what a row is
--   head_of_rows scale   the head of the table of the rows, up to the labels
--   labels v     what a place along a row is: "the hours", or the days
--   table q seconds n starts burnt lasts   "each lamp's hours and minutes, and its seconds, at the start, burnt, and
--                 now", of n lamps; where it is said how many hours a lamp lives, what is left of them, and until when,
--                 at the log's own pace
--   page_begun q n form logs  what stands above the rows, of a log of n seconds
--   days_told p seconds n ..   the rows up to the end of a log of so many seconds, and what stands below them: the
--                 lamps, and the longest stretch
--   until_text seconds lines  until when a log of the second kind goes (RULES, History of a board: "that a log's end is
--                    missing cannot be seen from it"): the seconds that it lets pass, and the lines that belong to it
--   paragraph s      what is said of a log, if anything is
--   page_ended .. unplayed    all that, for a log of the first kind: last what was not played of it, if anything was
--                    not
--   page_ended_until .. lines stray    the same of the second kind: last what is said of the line that does not belong,
--                    if there is one
-- Assumes nothing.
use Rattle.std.specs.Prelude.{ℕ, ◌+◌, ◌-◌, ◌*◌, ◌/◌, ◌%◌, ◌^◌, ◌==◌, min, nat_lt, List, [], ◌∷◌, ◌++◌}
use Rattle.std.specs.Prelude.{if◌then◌else◌, Bool, true, false, ◌&&◌, codes, slice_index_or, take, length}
use Rattle.std.specs.Prelude.{Option, Some, None}
use Rattle.std.specs.Str.{bytes_eq}
use Prim.Native.Char.{code}
use Rattle.std.specs.List.{flat_map, range_with_len}
use Rattle.textio.specs.Forms.{form_filled}
use Rattle.calendar.specs.declared.Moment.{Moment}
use Rattle.report.specs.Rows.{scale_of}
use Rattle.report.specs.Days.{day_length, dated, at, days_of, days_ended}
use Rattle.report.specs.Times.{hours_minutes, spent_text, instant_text}
use Rattle.record.specs.declared.types.Text.{Text}
use Rattle.report.specs.declared.page.Projector.{Projector}
use Rattle.report.specs.declared.page.Query.{Query}
use Rattle.report.specs.declared.page.Sheet.{Sheet}
use Rattle.report.specs.declared.page.Stretch.{Stretch}
use Rattle.report.specs.declared.rows.Layout.{Layout}
use Rattle.report.specs.declared.rows.Scale.{Scale}
use Rattle.report.specs.declared.rows.Scale.TheVariants.{Day, Week, Month}

abbrev pub layout_of : Query → ℕ → Layout
layout_of q seconds =
    record { began = q.began; long = q.long; scale = scale_of (days_of (at q.began seconds)) }

unfoldable pub head : List ℕ
head = codes "<!DOCTYPE html>\n"
    ++ (codes "<html lang=\"en\"><head><meta charset=\"utf-8\"><title>Which lamp burnt when</title>\n"
    ++ (codes "<meta name=\"viewport\" content=\"width=device-width,initial-scale=1\">\n"
    ++ (codes "<style>\n"
    ++ (codes "body{font:16px/1.4 sans-serif;max-width:2400px;margin:1em auto;padding:0 1em}\n"
    ++ (codes "body{color:#111111;background:#ffffff}\n"
    ++ (codes "h1{font-size:1.4em}\n"
    ++ (codes "table{border-collapse:collapse;margin:1em 0}\n"
    ++ (codes "caption{text-align:left;font-weight:bold;padding:.3em 0}\n"
    ++ (codes "td,th{border:1px solid #767676;padding:.25em .6em;text-align:right}\n"
    ++ (codes ".d{width:100%}\n"
    ++ (codes ".d td,.d th{border-width:1px 0;padding:.2em .4em;text-align:left;vertical-align:top}\n"
    ++ (codes ".d .p{width:100%}\n"
    ++ (codes "dl{display:grid;grid-template-columns:auto 1fr;gap:.2em 1em;margin:1em 0}\n"
    ++ (codes "dd{margin:0;overflow-wrap:anywhere}\n"
    ++ (codes ".n span{display:block;font-size:13px;line-height:18px;white-space:nowrap}\n"
    ++ (codes ".o{position:relative;height:1.4em;font-size:13px;font-weight:normal}\n"
    ++ (codes ".o span{position:absolute;transform:translateX(-50%);white-space:nowrap}\n"
    ++ (codes ".o .f,.o .g{transform:none}\n"
    ++ (codes ".o .t{transform:translateX(-100%)}\n"
    ++ (codes "svg{display:block;width:100%}\n"
    ++ (codes "svg *{vector-effect:non-scaling-stroke}\n"
    ++ (codes ".b{fill:#eeeeee;stroke:#767676}\n"
    ++ (codes ".h{stroke:#767676}\n"
    ++ (codes ".l{fill:#0b5394;stroke:#0b5394}\n"
    ++ (codes ".m{fill:#ffffff}\n"
    ++ (codes "@media(min-width:50em){\n"
    ++ (codes ".d th,.d td{white-space:nowrap}}\n"
    ++ (codes "@media(max-width:50em){\n"
    ++ (codes "body{padding:0 .5em}\n"
    ++ (codes "td,th{padding:.2em .3em}\n"
    ++ (codes "td{overflow-wrap:anywhere}\n"
    ++ (codes ".d td{overflow-wrap:normal}\n"
    ++ (codes ".o .s{display:none}}\n"
    ++ (codes "@media(max-width:30em){\n"
    ++ (codes "td,th{font-size:13px;padding:.2em}\n"
    ++ (codes ".d td,.d th{padding:.2em}\n"
    ++ (codes ".o span{display:none}\n"
    ++ (codes ".o .f,.o .t{display:block}}\n"
    ++ (codes "@media screen{\n"
    ++ (codes ":root{color-scheme:light dark}}\n"
    ++ (codes "@media screen and (prefers-color-scheme:dark){\n"
    ++ (codes "body{color:#eeeeee;background:#111111}\n"
    ++ (codes "td,th{border-color:#8c8c8c}\n"
    ++ (codes ".b{fill:#2a2a2a;stroke:#8c8c8c}\n"
    ++ (codes ".h{stroke:#8c8c8c}\n"
    ++ (codes ".l{fill:#6fb7f2;stroke:#6fb7f2}\n"
    ++ (codes ".m{fill:#111111}}\n"
    ++ (codes "@media(forced-colors:active){\n"
    ++ (codes ".b{fill:Canvas;stroke:CanvasText}\n"
    ++ (codes ".h{stroke:CanvasText}\n"
    ++ (codes ".l{fill:CanvasText;stroke:CanvasText}\n"
    ++ (codes ".m{fill:Canvas}}\n"
    ++ (codes "@media print{\n"
    ++ (codes "body{font-size:10pt;margin:0;padding:0}\n"
    ++ (codes "thead{display:table-header-group}\n"
    ++ (codes ".d th,.d td{white-space:nowrap}\n"
    ++ (codes "tr,svg{break-inside:avoid}\n"
    ++ (codes ".b,.l,.m{-webkit-print-color-adjust:exact;print-color-adjust:exact}}\n"
    ++ (codes "</style></head><body><main>\n"
    ++ codes "<h1>Which lamp burnt when</h1>\n")))))))))))))))))))))))))))))))))))))))))))))))))))))))))))

abbrev pub no_clock : List ℕ
no_clock = codes "<p>This page knows no clock: days and hours count from the log's first second."

abbrev pub time_of_day : ℕ → List ℕ
time_of_day second = form_filled (codes " at #:##:##, and days and hours are that clock's.")
    ((second / 3600) ∷ (second / 60 % 60 / 10) ∷ (second / 60 % 10) ∷ (second % 60 / 10) ∷ (second % 10) ∷ [])

unfoldable pub moment_text : Moment → List ℕ
moment_text m = codes "<p>The log began on " ++ (dated m 0 ++ time_of_day m.second)

abbrev pub clock_begun : Option Moment → List ℕ
clock_begun None = no_clock
clock_begun (Some m) = moment_text m

abbrev pub row_words : Scale → Option Moment → List ℕ
row_words Day began = codes "day of 24 hours"
row_words Week None = codes "week of 7 days"
row_words Week (Some m) = codes "week, from Monday to Sunday"
row_words Month None = codes "month of 30 days"
row_words Month (Some m) = codes "month of the calendar"

unfoldable pub clock_text : Layout → List ℕ
clock_text v = clock_begun v.began ++ (codes " A row is a " ++ (row_words v.scale v.began
    ++ codes "; in it each lamp has a band, and a bar on the band is a stretch that the lamp burnt.</p>\n"))

abbrev pub head_words : Scale → List ℕ
head_words Day = codes "The days</caption><thead><tr><th scope=\"col\">day"
head_words Week = codes "The weeks</caption><thead><tr><th scope=\"col\">week"
head_words Month = codes "The months</caption><thead><tr><th scope=\"col\">month"

unfoldable pub head_of_rows : Scale → List ℕ
head_of_rows scale = codes "<table class=\"d\"><caption>" ++ (head_words scale
    ++ codes "</th><th scope=\"col\">lamp</th><th scope=\"col\"><div class=\"o\">\n")

abbrev pub hours_since : List ℕ
hours_since = codes "<span class=\"f\" style=\"left:0%\">+0 h</span>\n"
    ++ (codes "<span class=\"s\" style=\"left:12.5%\">+3 h</span><span style=\"left:25%\">+6 h</span>\n"
    ++ (codes "<span class=\"s\" style=\"left:37.5%\">+9 h</span><span style=\"left:50%\">+12 h</span>\n"
    ++ (codes "<span class=\"s\" style=\"left:62.5%\">+15 h</span><span style=\"left:75%\">+18 h</span>\n"
    ++ (codes "<span class=\"s\" style=\"left:87.5%\">+21 h</span>"
    ++ codes "<span class=\"t\" style=\"left:100%\">+24 h</span>\n"))))

abbrev pub hours_of_day : List ℕ
hours_of_day = codes "<span class=\"f\" style=\"left:0%\">00:00</span>\n"
    ++ (codes "<span class=\"s\" style=\"left:12.5%\">03:00</span><span style=\"left:25%\">06:00</span>\n"
    ++ (codes "<span class=\"s\" style=\"left:37.5%\">09:00</span><span style=\"left:50%\">12:00</span>\n"
    ++ (codes "<span class=\"s\" style=\"left:62.5%\">15:00</span><span style=\"left:75%\">18:00</span>\n"
    ++ (codes "<span class=\"s\" style=\"left:87.5%\">21:00</span>"
    ++ codes "<span class=\"t\" style=\"left:100%\">24:00</span>\n"))))

abbrev pub days_since : List ℕ
days_since =
    codes "<span class=\"f\" style=\"left:0%\">+0 d</span><span class=\"s\" style=\"left:14.29%\">+1 d</span>\n"
    ++ (codes "<span style=\"left:28.57%\">+2 d</span><span class=\"s\" style=\"left:42.86%\">+3 d</span>\n"
    ++ (codes "<span style=\"left:57.14%\">+4 d</span><span class=\"s\" style=\"left:71.43%\">+5 d</span>\n"
    ++ codes "<span style=\"left:85.71%\">+6 d</span><span class=\"t\" style=\"left:100%\">+7 d</span>\n"))

abbrev pub days_of_week : List ℕ
days_of_week =
    codes "<span class=\"f\" style=\"left:0%\">Mon</span><span class=\"g\" style=\"left:14.29%\">Tue</span>\n"
    ++ (codes "<span class=\"g\" style=\"left:28.57%\">Wed</span><span class=\"g\" style=\"left:42.86%\">Thu</span>\n"
    ++ (codes "<span class=\"g\" style=\"left:57.14%\">Fri</span><span class=\"g\" style=\"left:71.43%\">Sat</span>\n"
    ++ codes "<span class=\"g\" style=\"left:85.71%\">Sun</span>\n"))

abbrev pub weeks_since : List ℕ
weeks_since =
    codes "<span class=\"f\" style=\"left:0%\">+0 d</span><span class=\"g\" style=\"left:22.58%\">+7 d</span>\n"
    ++ (codes "<span class=\"g\" style=\"left:45.16%\">+14 d</span>"
    ++ (codes "<span class=\"g\" style=\"left:67.74%\">+21 d</span>\n"
    ++ codes "<span class=\"g\" style=\"left:90.32%\">+28 d</span>\n"))

abbrev pub days_of_month : List ℕ
days_of_month =
    codes "<span class=\"f\" style=\"left:0%\">1</span><span class=\"g\" style=\"left:22.58%\">8</span>\n"
    ++ (codes "<span class=\"g\" style=\"left:45.16%\">15</span><span class=\"g\" style=\"left:67.74%\">22</span>\n"
    ++ codes "<span class=\"g\" style=\"left:90.32%\">29</span>\n")

abbrev pub label_words : Scale → Option Moment → List ℕ
label_words Day None = hours_since
label_words Day (Some m) = hours_of_day
label_words Week None = days_since
label_words Week (Some m) = days_of_week
label_words Month None = weeks_since
label_words Month (Some m) = days_of_month

abbrev pub labels : Layout → List ℕ
labels v =
    label_words v.scale v.began ++ codes "</div></th><th scope=\"col\">burnt</th></tr></thead><tbody>\n"

abbrev pub days_closed : List ℕ
days_closed = codes "</tbody></table>\n"

-- the heads of what is left, where it is said how long a lamp lives
abbrev pub life_heads : Option ℕ → List ℕ
life_heads None = []
life_heads (Some h) =
    form_filled (codes "<th scope=\"col\">left of # h</th><th scope=\"col\">until, at this log's pace</th>") (h ∷ [])

-- what a lamp burns in `seconds` is `burnt`: so many days does it burn `left`, rounded down
abbrev pub days_left : ℕ → ℕ → ℕ → ℕ
days_left left seconds burnt = min (left * seconds) (2 ^ 64 - 1) / burnt / day_length

-- a hundred years
abbrev pub days_most : ℕ
days_most = 36525

abbrev pub day_left : Option Moment → ℕ → ℕ → List ℕ
day_left None seconds days = form_filled (codes "# days") (days ∷ [])
day_left (Some m) seconds days = dated m (at (Some m) seconds / day_length + days)

abbrev pub until_day : Option Moment → ℕ → ℕ → List ℕ
until_day began seconds days =
    if nat_lt days_most days then codes "over 100 years" else day_left began seconds days

abbrev pub until_when : Option Moment → ℕ → ℕ → ℕ → List ℕ
until_when began seconds burnt left =
    if nat_lt burnt 1 then codes "burns not in this log" else until_day began seconds (days_left left seconds burnt)

abbrev pub life_left : Option Moment → ℕ → ℕ → ℕ → List ℕ
life_left began seconds burnt left = form_filled (codes "<td># h # min (# s)</td><td>") (hours_minutes left)
    ++ (until_when began seconds burnt left ++ codes "</td>")

abbrev pub life_cells : Option Moment → Option ℕ → ℕ → ℕ → ℕ → List ℕ
life_cells began None seconds burnt last = []
life_cells began (Some h) seconds burnt last = life_left began seconds burnt (h * 3600 - last)

unfoldable pub lamp_cells : List ℕ → List ℕ → List ℕ → ℕ → List ℕ
lamp_cells starts burnt lasts k = form_filled
    (codes "<tr><th scope=\"row\">lamp #</th><td># h # min (# s)</td><td># h # min (# s)</td>"
    ++ codes "<td># h # min (# s)</td>")
    ((k + 1) ∷ (hours_minutes (slice_index_or starts k 0) ++ (hours_minutes (slice_index_or burnt k 0)
    ++ hours_minutes (slice_index_or lasts k 0))))

-- the row of a lamp
unfoldable pub table_row : Query → ℕ → List ℕ → List ℕ → List ℕ → ℕ → List ℕ
table_row q seconds starts burnt lasts k = lamp_cells starts burnt lasts k
    ++ (life_cells q.began q.life seconds (slice_index_or burnt k 0) (slice_index_or lasts k 0) ++ codes "</tr>\n")

unfoldable pub table_rows : Query → ℕ → ℕ → List ℕ → List ℕ → List ℕ → List ℕ
table_rows q seconds lamps starts burnt lasts =
    flat_map (table_row q seconds starts burnt lasts) (range_with_len 0 lamps)

abbrev pub table_begun : List ℕ
table_begun = codes "<table><caption>Each lamp's burning time</caption><thead><tr><th scope=\"col\">lamp</th>"
    ++ codes "<th scope=\"col\">at the start</th><th scope=\"col\">burnt</th><th scope=\"col\">now</th>"

unfoldable pub table : Query → ℕ → ℕ → List ℕ → List ℕ → List ℕ → List ℕ
table q seconds lamps starts burnt lasts =
    table_begun ++ (life_heads q.life ++ (codes "</tr></thead><tbody>\n"
    ++ (table_rows q seconds lamps starts burnt lasts ++ codes "</tbody></table>\n")))

unfoldable pub span_said : List ℕ → Option Moment → ℕ → ℕ → List ℕ
span_said words began from to = words ++ (instant_text began from
    ++ (codes " to " ++ (instant_text began to ++ (codes ": " ++ (spent_text (to - from) ++ codes ".</p>\n")))))

abbrev pub log_span : Option Moment → ℕ → List ℕ
log_span began seconds = span_said (codes "<p>The log goes from ") began 0 seconds

abbrev pub longest_text : Option Moment → Stretch → List ℕ
longest_text began s =
    if nat_lt s.from s.to then span_said (codes "<p>The longest burn is from ") began s.from s.to else []

-- what a stripe on a bar says
abbrev pub stripe_long : Option ℕ → List ℕ
stripe_long None = []
stripe_long (Some h) = form_filled (codes "<p>A bar with a stripe is a burn of more than # h.</p>\n") (h ∷ [])

abbrev pub stripe_midnight : Option ℕ → List ℕ
stripe_midnight None = codes "<p>A bar with a stripe is a burn over midnight.</p>\n"
stripe_midnight (Some h) =
    form_filled (codes "<p>A bar with a stripe is a burn over midnight or of more than # h.</p>\n") (h ∷ [])

abbrev pub stripe_text : Option Moment → Option ℕ → List ℕ
stripe_text None long = stripe_long long
stripe_text (Some m) long = stripe_midnight long

-- a byte in HTML's text; of a text that has to be ASCII, another one is a replacement character
abbrev pub escaped : Bool → ℕ → List ℕ
escaped is_ascii b =
    if is_ascii && nat_lt 126 b then codes "&#65533;"
    else if b == code "<" then codes "&lt;"
    else if b == code ">" then codes "&gt;"
    else if b == code "&" then codes "&amp;"
    else b ∷ []

unfoldable pub html_text : Bool → List ℕ → List ℕ
html_text is_ascii s = flat_map (λ k. escaped is_ascii (slice_index_or s k 0)) (range_with_len 0 (length s))

unfoldable pub about_item : Bool → List ℕ → List ℕ → List ℕ
about_item is_ascii term s =
    codes "<dt>" ++ (term ++ (codes "</dt><dd>" ++ (html_text is_ascii s ++ codes "</dd>\n")))

-- nothing of a text that the settings leave empty
abbrev pub about_item_if : Bool → List ℕ → List ℕ → List ℕ
about_item_if is_ascii term s = if length s == 0 then [] else about_item is_ascii term s

abbrev pub settings_text : Text → List ℕ
settings_text t = take t.len t.bytes

-- a name is UTF-8; a maker and a model have any bytes (RULES, Texts)
unfoldable pub projector_text : Projector → List ℕ
projector_text p = about_item_if false (codes "projector") (settings_text p.name)
    ++ (about_item_if true (codes "manufacturer") (settings_text p.maker)
    ++ about_item_if true (codes "model") (settings_text p.model))

abbrev pub form_item : Option (List ℕ) → List ℕ
form_item None = about_item false (codes "form") (codes "sample set-up")
form_item (Some name) = about_item false (codes "form") name

abbrev pub log_item : List ℕ → List ℕ
log_item name =
    if bytes_eq name (codes "-") then about_item false (codes "log") (codes "standard input")
    else about_item false (codes "log") name

unfoldable pub log_items : List (List ℕ) → List ℕ
log_items names = flat_map log_item names

unfoldable pub about_list : Projector → Option (List ℕ) → List (List ℕ) → List ℕ
about_list p form logs =
    codes "<dl>\n" ++ (projector_text p ++ (form_item form ++ (log_items logs ++ codes "</dl>\n")))

unfoldable pub page_begun : Query → ℕ → Option (List ℕ) → List (List ℕ) → List ℕ
page_begun q seconds form logs =
    let v = layout_of q seconds in
    head ++ (about_list q.projector form logs ++ (log_span q.began seconds ++ (clock_text v
    ++ (stripe_text q.began q.long ++ (head_of_rows v.scale ++ labels v)))))

abbrev pub paragraph : Option (List ℕ) → List ℕ
paragraph None = []
paragraph (Some s) = codes "<p>" ++ (s ++ codes "</p>\n")

unfoldable pub days_told : Sheet → ℕ → ℕ → List ℕ → List ℕ → List ℕ → List ℕ
days_told p seconds lamps starts burnt lasts =
    days_ended (layout_of p.query p.seconds) p.row (days_of (at p.query.began seconds))
    ++ (days_closed ++ (table p.query seconds lamps starts burnt lasts ++ longest_text p.query.began p.longest))

unfoldable pub page_ended : Sheet → ℕ → ℕ → List ℕ → List ℕ → List ℕ → Option (List ℕ) → List ℕ
page_ended p seconds lamps starts burnt lasts unplayed =
    days_told p seconds lamps starts burnt lasts ++ paragraph unplayed

abbrev pub until_text : ℕ → ℕ → List ℕ
until_text seconds lines = form_filled
    (codes "<p>The log goes until second #, line #. What came after that, if anything did, is not told.</p>\n")
    (seconds ∷ lines ∷ [])

unfoldable pub page_ended_until : Sheet → ℕ → ℕ → List ℕ → List ℕ → List ℕ → ℕ → Option (List ℕ) → List ℕ
page_ended_until p seconds lamps starts burnt lasts lines stray =
    days_told p seconds lamps starts burnt lasts ++ (until_text seconds lines ++ paragraph stray)
