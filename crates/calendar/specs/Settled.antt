-- Days as almanacs have them, and texts that say a day and a time or do not.
--   Weekdays     the weekdays of three days
--   DaysAfter    days after others: over the end of a month, of February in a leap year, in a common year and at the
--                end of a century, and of a year
--   MomentsSaid  what texts say: 29 February of a leap year, and no such day of a common one, no hour 24, no date
--                without a time
-- Assumes nothing.
use Rattle.std.specs.Prelude.{ℕ, ◌≡◌, ◌*◌, ◌+◌, codes, Some, None, option_map}
use Rattle.calendar.specs.declared.Date.{Date}
use Rattle.calendar.specs.Days.{day_number, date_after, weekday, weekday_name}
use Rattle.calendar.specs.Moments.{moment_in}

abbrev pub date : ℕ → ℕ → ℕ → Date
date y m d = record { year = y; month = m; day = d }

-- the first day of the Gregorian calendar and of the Unix epoch, and a Monday
pub record Weekdays : Type 0 where
  pub first : weekday_name (weekday (day_number 1582 10 15)) ≡ codes "Fri"
  pub epoch : weekday_name (weekday (day_number 1970 1 1)) ≡ codes "Thu"
  pub monday : weekday_name (weekday (day_number 2026 11 23)) ≡ codes "Mon"

pub record DaysAfter : Type 0 where
  pub month : date_after (date 2026 11 30) 1 ≡ date 2026 12 1
  pub leap : date_after (date 2028 2 28) 1 ≡ date 2028 2 29
  pub after_leap : date_after (date 2028 2 29) 1 ≡ date 2028 3 1
  pub common : date_after (date 2027 2 28) 1 ≡ date 2027 3 1
  pub century : date_after (date 2100 2 28) 1 ≡ date 2100 3 1
  pub fourth_century : date_after (date 2000 2 28) 1 ≡ date 2000 2 29
  pub year : date_after (date 2026 12 31) 1 ≡ date 2027 1 1
  pub week : date_after (date 2026 11 23) 7 ≡ date 2026 11 30

pub record MomentsSaid : Type 0 where
  pub short : option_map (λ m. m.date) (moment_in (codes "2026-11-23T06:00")) ≡ Some (date 2026 11 23)
  pub second : option_map (λ m. m.second) (moment_in (codes "2026-11-23T06:00:30")) ≡ Some (6 * 3600 + 30)
  pub leap : option_map (λ m. m.date) (moment_in (codes "2028-02-29T23:59:59")) ≡ Some (date 2028 2 29)
  pub common : moment_in (codes "2027-02-29T00:00") ≡ None
  pub hour : moment_in (codes "2026-11-23T24:00") ≡ None
  pub alone : moment_in (codes "2026-11-23") ≡ None
