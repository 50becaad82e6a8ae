-- Days of the calendar. It is the Gregorian one, as RFC 3339 has it, also for years before it was in use.
--   is_leap y             the year y has 366 days
--   month_length y m      how many days the month m, 1 to 12, of the year y has
--   next_date d           the day after d; years are counted up to what 64 bits hold
--   date_after d n        the day n days after d
--   before_year y         how many days all years before y have, from the year 0 on
--   before_month y k      how many days the first k months of the year y have
--   day_number y m d      the number of a day: how many days are before it, from 0000-01-01 on
--   weekday n             the weekday of the day with the number n, from 0, a Monday: 0000-01-01 is a Saturday
--   weekday_name w        the name of the weekday w
-- Assumes nothing.
use Rattle.std.specs.Prelude.{ℕ, zero, suc, ◌+◌, ◌-◌, ◌^◌, ◌%◌, min, nat_lt, Bool, not, ◌&&◌, ◌||◌, ◌==◌, List, codes}
use Rattle.std.specs.Prelude.{if◌then◌else◌}
use Rattle.calendar.specs.declared.Date.{Date}

abbrev pub is_leap : ℕ → Bool
is_leap y = y % 4 == 0 && (not (y % 100 == 0) || y % 400 == 0)

abbrev pub year_length : ℕ → ℕ
year_length y = if is_leap y then 366 else 365

abbrev pub month_length : ℕ → ℕ → ℕ
month_length y m =
    if m == 2 then (if is_leap y then 29 else 28)
    else if m == 4 || m == 6 || m == 9 || m == 11 then 30
    else 31

abbrev pub next_date : Date → Date
next_date d =
    if nat_lt d.day (month_length d.year d.month) then record { year = d.year; month = d.month; day = d.day + 1 }
    else if nat_lt d.month 12 then record { year = d.year; month = d.month + 1; day = 1 }
    else record { year = min (d.year + 1) (2 ^ 64 - 1); month = 1; day = 1 }

unfoldable pub date_after : Date → ℕ → Date
date_after d zero = d
date_after d (suc n) = next_date (date_after d n)

unfoldable pub before_year : ℕ → ℕ
before_year zero = 0
before_year (suc y) = before_year y + year_length y

unfoldable pub before_month : ℕ → ℕ → ℕ
before_month y zero = 0
before_month y (suc k) = before_month y k + month_length y (k + 1)

abbrev pub day_number : ℕ → ℕ → ℕ → ℕ
day_number y m d = before_year y + (before_month y (m - 1) + (d - 1))

abbrev pub weekday : ℕ → ℕ
weekday n = (n + 5) % 7

abbrev pub weekday_name : ℕ → List ℕ
weekday_name w =
    if w == 0 then codes "Mon"
    else if w == 1 then codes "Tue"
    else if w == 2 then codes "Wed"
    else if w == 3 then codes "Thu"
    else if w == 4 then codes "Fri"
    else if w == 5 then codes "Sat"
    else codes "Sun"
