-- How days lie in the rows of a page (RULES, Floor log): "up to 60 days a row is a day; 61 to 400 days a week; beyond
-- that a month".
--   scale_of n          what a row is of a log that touches n days
--   box_width scale     how wide its picture is, "a unit a second"
--   line_step scale     how far its lines are apart: 6 hours, a day, 7 days
--   place_in scale began n   the place in its row of the day that n days of the log are before: how many days of the
--                       row are before it, and how many days the row has
--   span_of v day       the row of a day, counted from 1: so many days of the log are before its first one, its last
--                       day, and so many days of the row are before the log's first one
-- Assumes nothing.
use Rattle.std.specs.Prelude.{ℕ, ◌+◌, ◌-◌, ◌%◌, ◌^◌, min, nat_le, if◌then◌else◌, Option, Some, None}
use Rattle.calendar.specs.declared.Date.{Date}
use Rattle.calendar.specs.declared.Moment.{Moment}
use Rattle.calendar.specs.Days.{date_after, month_length, weekday}
use Rattle.report.specs.declared.rows.Scale.{Scale}
use Rattle.report.specs.declared.rows.Scale.TheVariants.{Day, Week, Month}
use Rattle.report.specs.declared.rows.Layout.{Layout}
use Rattle.report.specs.declared.rows.DayPlace.{DayPlace}
use Rattle.report.specs.declared.rows.Span.{Span}

abbrev pub scale_of : ℕ → Scale
scale_of days = if nat_le days 60 then Day else if nat_le days 400 then Week else Month

abbrev pub box_width : Scale → ℕ
box_width Day = 86400
box_width Week = 604800
box_width Month = 2678400

abbrev pub line_step : Scale → ℕ
line_step Day = 21600
line_step Week = 86400
line_step Month = 604800

-- no month has more than 31 days
abbrev pub month_place : Date → DayPlace
month_place d = record { before = min (d.day - 1) 30; length = month_length d.year d.month }

abbrev pub place_in : Scale → Option Moment → ℕ → DayPlace
place_in Day began passed = record { before = 0; length = 1 }
place_in Week None passed = record { before = passed % 7; length = 7 }
place_in Week (Some m) passed = record { before = weekday (min (m.number + passed) (2 ^ 64 - 1)); length = 7 }
place_in Month None passed = record { before = passed % 30; length = 30 }
place_in Month (Some m) passed = month_place (date_after m.date passed)

abbrev pub span_of : Layout → ℕ → Span
span_of v day =
    let passed = day - 1 in
    let place = place_in v.scale v.began passed in
    record {
      before = passed - place.before;
      last = day + (place.length - 1 - place.before);
      lead = place.before - passed;
    }
