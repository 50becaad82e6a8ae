-- The days and texts of specs/Settled.antt are computed.
-- Assumes nothing.
use Rattle.std.proofs.Common.{refl}
use Rattle.calendar.specs.Days.{before_year, before_month, date_after}
use Rattle.calendar.specs.Moments.{two_in, moment_of, moment_in}
use Rattle.calendar.specs.Settled.{Weekdays, DaysAfter, MomentsSaid}

pub weekdays_are : Weekdays
unfolding before_year before_month
weekdays_are = record { first = refl; epoch = refl; monday = refl }

pub days_follow : DaysAfter
unfolding date_after
days_follow = record {
  month = refl;
  leap = refl;
  after_leap = refl;
  common = refl;
  century = refl;
  fourth_century = refl;
  year = refl;
  week = refl;
}

pub moments_said : MomentsSaid
unfolding two_in moment_of moment_in before_year before_month
moments_said = record { short = refl; second = refl; leap = refl; common = refl; hour = refl; alone = refl }

pub ruleset days_settled =
    (weekdays_are, days_follow, moments_said)
