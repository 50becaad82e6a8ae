-- What is written of the days of a page (RULES, Floor log). Where it is known when the log began, `began`, its days are
-- those of the calendar; where not, they count from its first second.
--   at began n                the second n of the log, counted from the first midnight on; what 64 bits cannot count is
--                             the last that they can
--   day_name began day        a day, counted from 1: its weekday and date, or its number
--   days_name began n day     the days after the day n up to the day `day`: the first and the last, or the only one
--   days_of n                 so many days have one of the first n seconds; a log of no seconds has its first day
--   is_any_lit lit            a mark of `lit` is set
--   note_of began long from to   what is marked of a stretch: that it goes over a midnight of the clock, and the hours
--                             that it passes, where `long` says how many are many;    note_words   that in words
--   row_drawn v row lit from to   the row that is open once a stretch is drawn, from the second `from` up to `to`: that
--                             of its last second, with the seconds in it that lamps burnt; what has no second, or burns
--                             no lamp, draws none
--   row_begun v lamps s       a row with the days s: its name, those of the lamps, and a picture with a `band` for
--                             each. A lamp has its place, from 0, and is numbered from 1
--   idle_days began n day     "days in which no lamp burnt are one line": those after the day n up to the day `day`
--   long_days v row           "each day in it that has a burn beyond `--long` is reported by itself"
--   rows_opened v n row day   the rows after the one that is open up to that of the day `day`, of n lamps: the picture
--                             that is open ends, with its sum, and that of the day's row begins. None is open where the
--                             row's last day is 0
--   days_ended v row day      the same at the log's end, where no lamp burnt after the row that is open
--   bar note from to x n k    "a unit a second": from the place x of a picture on, n seconds of a stretch of the lamp
--                             at place k: "The bar's title tells the whole stretch"; a stripe on it where it is marked
--   bars_in s lit note x y from to   "a bar for each stretch with a second in that row, cut at the row's ends", for
--                             each lamp whose mark of `lit` is set; it lies from x to y, counted from the first
--                             midnight
--   is_drawn_in row day x     a stretch is drawn once in each row: in the day in which the row opens, or the stretch
--                             begins
--   seconds_within day x y        so many of its seconds are in that day
--   each_from text next s ns  what is written of the numbers ns, one after the other, from the state s on;
--   after_each next s ns      and the state then
--   stretch_drawn v row lit from to   what is written of a stretch, where that row is open
-- Assumes nothing.
use Rattle.std.specs.Prelude.{ℕ, ◌+◌, ◌-◌, ◌*◌, ◌/◌, min, nat_lt, Bool, true, false, ◌&&◌, ◌||◌, List, [], ◌∷◌, ◌++◌}
use Rattle.std.specs.Prelude.{is_some, length, codes, if◌then◌else◌, slice_index_or, Option, Some, None, ◌%◌, ◌^◌}
use Rattle.std.specs.Prelude.{◌==◌, set, replicate}
use Rattle.std.specs.List.{flat_map, range_with_len, list_any}
use Rattle.calendar.specs.declared.Date.{Date}
use Rattle.calendar.specs.declared.Moment.{Moment}
use Rattle.calendar.specs.Days.{date_after, weekday, weekday_name}
use Rattle.textio.specs.Forms.{form_filled}
use Rattle.report.specs.declared.days.StretchNote.{StretchNote}
use Rattle.report.specs.declared.days.PageRow.{PageRow}
use Rattle.report.specs.declared.rows.Scale.{Scale}
use Rattle.report.specs.declared.rows.Scale.TheVariants.{Day, Week, Month}
use Rattle.report.specs.declared.rows.Layout.{Layout}
use Rattle.report.specs.declared.rows.Span.{Span}
use Rattle.report.specs.Rows.{box_width, line_step, span_of}

abbrev pub day_length : ℕ
day_length = 86400

abbrev pub days_of : ℕ → ℕ
days_of n = if nat_lt 0 n then (n - 1) / day_length + 1 else 1

abbrev pub is_any_lit : List Bool → Bool
is_any_lit lit = list_any (λ m. m) lit

abbrev pub is_drawn : List Bool → ℕ → ℕ → Bool
is_drawn lit from to = nat_lt from to && is_any_lit lit

abbrev pub past_midnight : Option Moment → ℕ
past_midnight None = 0
past_midnight (Some m) = m.second

abbrev pub at : Option Moment → ℕ → ℕ
at began n = min (n + past_midnight began) (2 ^ 64 - 1)

abbrev pub is_over_midnight : Option Moment → ℕ → ℕ → Bool
is_over_midnight None from to = false
is_over_midnight (Some m) from to = nat_lt (at (Some m) from / day_length + 1) (days_of (at (Some m) to))

-- the hours, where so many seconds are more than they
abbrev pub hours_passed : Option ℕ → ℕ → Option ℕ
hours_passed None seconds = None
hours_passed (Some h) seconds = if nat_lt (h * 3600) seconds then Some h else None

abbrev pub note_of : Option Moment → Option ℕ → ℕ → ℕ → StretchNote
note_of began long from to =
    record { over_midnight = is_over_midnight began from to; hours = hours_passed long (to - from) }

abbrev pub words_noted : Bool → Option ℕ → List ℕ
words_noted false None = []
words_noted true None = codes "over midnight"
words_noted false (Some h) = form_filled (codes "over # h") (h ∷ [])
words_noted true (Some h) = form_filled (codes "over midnight and over # h") (h ∷ [])

abbrev pub note_words : StretchNote → List ℕ
note_words n = words_noted n.over_midnight n.hours

abbrev pub is_noted : StretchNote → Bool
is_noted n = n.over_midnight || is_some n.hours

-- of a year more than its last four digits are written where there are more
abbrev pub date_text : Date → List ℕ
date_text d = form_filled (codes "####-##-##")
    ((d.year / 1000) ∷ (d.year / 100 % 10) ∷ (d.year / 10 % 10) ∷ (d.year % 10) ∷ (d.month / 10) ∷ (d.month % 10)
    ∷ (d.day / 10) ∷ (d.day % 10) ∷ [])

abbrev pub dated : Moment → ℕ → List ℕ
dated m days =
    weekday_name (weekday (min (m.number + days) (2 ^ 64 - 1))) ++ (codes " " ++ date_text (date_after m.date days))

abbrev pub day_name : Option Moment → ℕ → List ℕ
day_name None day = form_filled (codes "day #") (day ∷ [])
day_name (Some m) day = dated m (day - 1)

-- a lamp's band is 16 high, with a gap of 1 above it and below
abbrev pub band_top : ℕ → ℕ
band_top k = k * 18 + 1

-- the line of that number, a step of the scale after the one before
abbrev pub band_line : Scale → ℕ → ℕ → List ℕ
band_line scale y n = form_filled (codes "M# #v16") ((n * line_step scale) ∷ y ∷ [])

-- so many, of the numbers after `before`
unfoldable pub lines : Scale → ℕ → ℕ → ℕ → List ℕ
lines scale y before count = flat_map (λ k. band_line scale y (before + k + 1)) (range_with_len 0 count)

-- those inside a band, from x on
abbrev pub band_lines : Scale → ℕ → ℕ → ℕ → List ℕ
band_lines scale x width y =
    lines scale y (x / line_step scale) ((x + width - 1) / line_step scale - x / line_step scale)

unfoldable pub band : Scale → ℕ → ℕ → ℕ → List ℕ
band scale x width k = form_filled
    (codes "<rect class=\"b\" x=\"#\" width=\"#\" height=\"16\" y=\"#\"/><path class=\"h\" d=\"")
    (x ∷ width ∷ band_top k ∷ [])
    ++ (band_lines scale x width (band_top k) ++ codes "\"/>")

unfoldable pub bands : Scale → ℕ → ℕ → ℕ → List ℕ
bands scale x width lamps = flat_map (band scale x width) (range_with_len 0 lamps)

unfoldable pub lamp_name : ℕ → List ℕ
lamp_name k = form_filled (codes "<span>lamp #</span>") ((k + 1) ∷ [])

unfoldable pub lamp_names : ℕ → List ℕ
lamp_names lamps = flat_map lamp_name (range_with_len 0 lamps)

abbrev pub head_begun : List ℕ
head_begun = codes "<tr><th scope=\"row\">"

abbrev pub picture_begun : Scale → ℕ → List ℕ
picture_begun scale lamps = form_filled
    (codes "</td><td class=\"p\"><svg viewBox=\"0 0 # #\" height=\"#\" preserveAspectRatio=\"none\" role=\"img\" "
    ++ codes "aria-label=\"when each lamp burnt on ")
    (box_width scale ∷ (lamps * 18) ∷ (lamps * 18) ∷ [])

abbrev pub first_name : Option Moment → ℕ → ℕ → List ℕ
first_name began rows day = if nat_lt (rows + 1) day then day_name began (rows + 1) ++ codes " to " else []

abbrev pub days_name : Option Moment → ℕ → ℕ → List ℕ
days_name began rows day = first_name began rows day ++ day_name began day

unfoldable pub row_begun : Layout → ℕ → Span → List ℕ
row_begun v lamps s =
    let name = days_name v.began s.before s.last in
    head_begun ++ (name ++ (codes "</th><td class=\"n\">" ++ (lamp_names lamps
    ++ (picture_begun v.scale lamps ++ (name ++ (codes "\">"
    ++ bands v.scale (s.lead * day_length) ((s.last - s.before) * day_length) lamps))))))

unfoldable pub idle_days : Option Moment → ℕ → ℕ → List ℕ
idle_days began rows day =
    if nat_lt rows day
    then head_begun ++ (days_name began rows day ++ codes "</th><td colspan=\"3\">no lamp burnt</td></tr>\n")
    else []

-- hours and minutes, rounded down
abbrev pub sum_told : ℕ → List ℕ
sum_told sum = form_filled (codes "</svg></td><td># h # min</td></tr>\n") ((sum / 3600) ∷ (sum / 60 % 60) ∷ [])

abbrev pub long_line : Option Moment → ℕ → ℕ → List ℕ
long_line began hours day = head_begun ++ (day_name began day
    ++ form_filled (codes "</th><td colspan=\"3\">a burn of more than # h</td></tr>\n") (hours ∷ []))

abbrev pub has_long : PageRow → ℕ → Bool
has_long row k = slice_index_or row.long k false

abbrev pub long_day_by : Option ℕ → Option Moment → PageRow → ℕ → List ℕ
long_day_by None began row k = []
long_day_by (Some h) began row k = if has_long row k then long_line began h (row.before + k + 1) else []

-- of the day that k days of the row are before
abbrev pub long_day : Layout → PageRow → ℕ → List ℕ
long_day v row k = long_day_by v.long v.began row k

unfoldable pub long_days : Layout → PageRow → List ℕ
long_days v row = flat_map (long_day v row) (range_with_len 0 (row.last - row.before))

unfoldable pub row_end : Layout → PageRow → List ℕ
row_end v row = sum_told row.sum ++ long_days v row

abbrev pub row_ended : Layout → PageRow → List ℕ
row_ended v row = if nat_lt 0 row.last then row_end v row else []

unfoldable pub rows_opened : Layout → ℕ → PageRow → ℕ → List ℕ
rows_opened v lamps row day = if nat_lt row.last day
    then row_ended v row ++ (idle_days v.began row.last (span_of v day).before ++ row_begun v lamps (span_of v day))
    else []

abbrev pub row_none : PageRow
row_none = record { before = 0; last = 0; sum = 0; long = replicate 31 false }

abbrev pub row_opened : Layout → PageRow → ℕ → PageRow
row_opened v row day = if nat_lt row.last day
    then record row_none { before = (span_of v day).before; last = (span_of v day).last }
    else row

unfoldable pub days_ended : Layout → PageRow → ℕ → List ℕ
days_ended v row day = row_ended v row ++ idle_days v.began row.last day

abbrev pub note_behind : StretchNote → List ℕ
note_behind note = codes ", " ++ note_words note

abbrev pub note_in_title : StretchNote → List ℕ
note_in_title note = if is_noted note then note_behind note else []

-- a stripe along the middle of a bar
abbrev pub stripe : StretchNote → ℕ → ℕ → ℕ → List ℕ
stripe note x seconds k = if is_noted note
    then form_filled (codes "<rect class=\"m\" height=\"4\" y=\"#\" x=\"#\" width=\"#\"/>")
    ((band_top k + 6) ∷ x ∷ seconds ∷ [])
    else []

unfoldable pub bar : StretchNote → ℕ → ℕ → ℕ → ℕ → ℕ → List ℕ
bar note from to x seconds k = form_filled
    (codes "<rect class=\"l\" height=\"16\" y=\"#\" x=\"#\" width=\"#\">"
    ++ codes "<title>lamp # from # to #: # seconds")
    (band_top k ∷ x ∷ seconds ∷ (k + 1) ∷ from ∷ to ∷ (to - from) ∷ [])
    ++ (note_in_title note ++ (codes "</title></rect>" ++ stripe note x seconds k))

abbrev pub bar_if : Bool → StretchNote → ℕ → ℕ → ℕ → ℕ → ℕ → List ℕ
bar_if is_lit note from to x seconds k = if is_lit then bar note from to x seconds k else []

unfoldable pub bars : List Bool → StretchNote → ℕ → ℕ → ℕ → ℕ → List ℕ
bars lit note from to x seconds =
    flat_map (λ k. bar_if (slice_index_or lit k false) note from to x seconds k) (range_with_len 0 (length lit))

unfoldable pub bars_in : Span → List Bool → StretchNote → ℕ → ℕ → ℕ → ℕ → List ℕ
bars_in s lit note first last from to =
    let midnight = s.before * day_length in
    let x = first - midnight in
    let y = min (last - midnight) ((s.last - s.before) * day_length) in
    if nat_lt x y then bars lit note from to (s.lead * day_length + x) (y - x) else []

abbrev pub is_drawn_in : PageRow → ℕ → ℕ → Bool
is_drawn_in row day first = nat_lt row.last day || day == first / day_length + 1

abbrev pub bars_if : Bool → Layout → ℕ → List Bool → StretchNote → ℕ → ℕ → ℕ → ℕ → List ℕ
bars_if is_drawn v day lit note first last from to =
    if is_drawn then bars_in (span_of v day) lit note first last from to else []

abbrev pub seconds_within : ℕ → ℕ → ℕ → ℕ
seconds_within day first last =
    let midnight = (day - 1) * day_length in
    min (last - midnight) day_length - (first - midnight)

-- where a row is longer than a day
abbrev pub is_marked : Scale → StretchNote → Bool
is_marked Day note = false
is_marked Week note = is_some note.hours
is_marked Month note = is_some note.hours

abbrev pub long_in : PageRow → ℕ → Bool → List Bool
long_in row day is_marked = if is_marked then set row.long (day - 1 - row.before) true else row.long

-- what 64 bits cannot count is the last that they can
abbrev pub row_more : PageRow → ℕ → ℕ → Bool → PageRow
row_more row day seconds is_marked =
    record row { sum = min (row.sum + seconds) (2 ^ 64 - 1); long = long_in row day is_marked }

abbrev pub row_after : Layout → StretchNote → ℕ → ℕ → PageRow → ℕ → PageRow
row_after v note first last row day =
    row_more (row_opened v row day) day (seconds_within day first last) (is_marked v.scale note)

unfoldable pub each_from : {S : Type 0} → (S → ℕ → List ℕ) → (S → ℕ → S) → S → List ℕ → List ℕ
each_from text next s [] = []
each_from text next s (n ∷ ns) = text s n ++ each_from text next (next s n) ns

unfoldable pub after_each : {S : Type 0} → (S → ℕ → S) → S → List ℕ → S
after_each next s [] = s
after_each next s (n ∷ ns) = after_each next (next s n) ns

abbrev pub drawn_in : Layout → List Bool → StretchNote → ℕ → ℕ → ℕ → ℕ → PageRow → ℕ → List ℕ
drawn_in v lit note first last from to row day =
    rows_opened v (length lit) row day
    ++ bars_if (is_drawn_in row day first) v day lit note first last from to

-- the days from that of the second `first` up to that of the last one before `last`
abbrev pub days_between : ℕ → ℕ → List ℕ
days_between first last = range_with_len (first / day_length + 1) (days_of last - first / day_length)

unfoldable pub stretch_drawn : Layout → PageRow → List Bool → ℕ → ℕ → List ℕ
stretch_drawn v row lit from to =
    let first = at v.began from in
    let last = at v.began to in
    let note = note_of v.began v.long from to in
    if is_drawn lit first last
    then each_from (drawn_in v lit note first last from to) (row_after v note first last) row (days_between first last)
    else []

abbrev pub row_drawn : Layout → PageRow → List Bool → ℕ → ℕ → PageRow
row_drawn v row lit from to =
    let first = at v.began from in
    let last = at v.began to in
    if is_drawn lit first last
    then after_each (row_after v (note_of v.began v.long from to) first last) row (days_between first last)
    else row
