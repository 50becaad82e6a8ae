-- What is told of the stretches of specs/Settled.antt is computed.
-- Assumes nothing.
use Rattle.std.proofs.Common.{◌≡◌, refl, [], ◌∷◌, codes, true, None}
use Rattle.numbers.specs.Computing.{computing as numbers}
use Rattle.textio.specs.Computing.{computing as textio}
use Rattle.report.specs.Days.{row_none}
use Rattle.report.specs.Reports.{ended_text, table_new}
use Rattle.report.specs.Settled.{AreTold, EndsTold, open_row, plain_page, clock_page, thursday_page, first_week}
use Rattle.report.specs.Settled.{clock_query, bar_rows, day_rows, clock_rows, week_rows, first_week_rows, thursday_rows}
use Rattle.report.specs.Settled.{month_rows, calendar_rows, begun_rows, more_rows, csv_rows, line_rows}
use Rattle.calendar.specs.Computing.{computing as calendar}
use Rattle.report.specs.declared.Report.TheVariants.{Lines, Csv, Table}
use Rattle.report.specs.Computing.{computing}

pub bars_told : AreTold (plain_page 7 (open_row 1 2)) bar_rows
unfolding computing numbers textio
bars_told = (refl, (refl, (refl, (refl, (refl, (refl, (refl, tt)))))))

pub days_told : AreTold (plain_page 7 (open_row 0 1)) day_rows
unfolding computing numbers textio
days_told = (refl, (refl, tt))

pub clock_told : AreTold (clock_page 7 (open_row 0 1)) clock_rows
unfolding computing numbers textio calendar
clock_told = (refl, (refl, tt))

pub weeks_told : AreTold (plain_page 100 (open_row 0 7)) week_rows
unfolding computing numbers textio
weeks_told = (refl, (refl, tt))

pub first_week_told : AreTold (thursday_page row_none) first_week_rows
unfolding computing numbers textio calendar
first_week_told = (refl, tt)

pub thursday_told : AreTold (thursday_page first_week) thursday_rows
unfolding computing numbers textio calendar
thursday_told = (refl, tt)

pub months_told : AreTold (plain_page 401 (open_row 0 30)) month_rows
unfolding computing numbers textio
months_told = (refl, tt)

pub calendar_told : AreTold (clock_page 401 (open_row 0 8)) calendar_rows
unfolding computing numbers textio calendar
calendar_told = (refl, tt)

pub values_told : AreTold (Csv clock_query) csv_rows
unfolding computing numbers textio calendar
values_told = (refl, (refl, (refl, tt)))

pub table_told : AreTold (Table (table_new clock_query)) begun_rows
unfolding computing numbers textio calendar
table_told = (refl, (refl, tt))

pub more_told : AreTold (Table (record { query = clock_query; is_begun = true })) more_rows
unfolding computing numbers textio calendar
more_told = (refl, tt)

pub ends_told : EndsTold
unfolding computing numbers textio calendar
ends_told = record { whole = refl; unplayed = refl; stray = refl; none = refl; some = refl }

pub lines_told : AreTold Lines line_rows
unfolding computing numbers textio
lines_told = (refl, (refl, (refl, tt)))

pub totals_told : ended_text Lines 80 1 (0 ∷ []) (60 ∷ []) (60 ∷ []) None
    ≡ codes "lamp 1 start 0 burnt 60 now 60\n"
unfolding computing numbers textio
totals_told = refl

pub ruleset told_stretches = (
  bars_told,
  days_told,
  clock_told,
  weeks_told,
  first_week_told,
  thursday_told,
  months_told,
  calendar_told,
  values_told,
  table_told,
  more_told,
  ends_told,
  lines_told,
  totals_told,
)
