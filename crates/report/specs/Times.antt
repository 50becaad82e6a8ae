-- How a page and a table write times.
--   hours_minutes n        n seconds as hours, minutes and seconds
--   spent_text n           n seconds: hours and minutes, rounded down, and all its seconds
--   instant_text began n   the second n of a log: its date and time of day, where it is known when the log began, else
--                          the hours, minutes and seconds since it began
-- Assumes nothing.
use Rattle.std.specs.Prelude.{ℕ, ◌/◌, ◌%◌, List, [], ◌∷◌, ◌++◌, codes, Option, Some, None}
use Rattle.textio.specs.Forms.{form_filled}
use Rattle.calendar.specs.declared.Moment.{Moment}
use Rattle.calendar.specs.Days.{date_after}
use Rattle.report.specs.Days.{day_length, at, date_text}

abbrev pub hours_minutes : ℕ → List ℕ
hours_minutes n = (n / 3600) ∷ (n / 60 % 60) ∷ n ∷ []

abbrev pub spent_text : ℕ → List ℕ
spent_text n = form_filled (codes "# h # min (# s)") (hours_minutes n)

abbrev pub time_of_second : ℕ → List ℕ
time_of_second n = form_filled (codes " ##:##:##")
    ((n / 36000) ∷ (n / 3600 % 10) ∷ (n / 60 % 60 / 10) ∷ (n / 60 % 10) ∷ (n % 60 / 10) ∷ (n % 10) ∷ [])

abbrev pub date_of : Moment → ℕ → List ℕ
date_of m n = date_text (date_after m.date (n / day_length))

abbrev pub clock_instant : Moment → ℕ → List ℕ
clock_instant m n = date_of m n ++ time_of_second (n % day_length)

abbrev pub instant_text : Option Moment → ℕ → List ℕ
instant_text None n = form_filled (codes "#:##:##")
    ((n / 3600) ∷ (n / 60 % 60 / 10) ∷ (n / 60 % 10) ∷ (n % 60 / 10) ∷ (n % 10) ∷ [])
instant_text (Some m) n = clock_instant m (at (Some m) n)
