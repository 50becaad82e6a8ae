-- One name that opens this crate's definitions, for computing on concrete stretches only (RULES, Floor log).
-- Assumes nothing.
use Rattle.report.specs.LampLines.{stretch_line, stretch_lines, total_line, total_lines}
use Rattle.report.specs.Days.{lines, band, bands, lamp_name, lamp_names, row_begun, idle_days, long_days, row_end}
use Rattle.report.specs.Days.{rows_opened, bar, bars, bars_in, each_from, after_each, stretch_drawn}
use Rattle.report.specs.Table.{csv_row, stretch_row, rows_lit, quoted_text, csv_end, table_stretch, table_ended}

unfoldable pub computing : Unit {0}
unfolding stretch_line stretch_lines total_line total_lines lines band bands lamp_name lamp_names row_begun idle_days
    long_days row_end rows_opened bar bars bars_in each_from after_each stretch_drawn
    csv_row stretch_row rows_lit quoted_text csv_end table_stretch table_ended
computing = tt
