-- The stretches as a table, "a row each, a stretch over midnight once" (RULES, Floor log): of comma-separated values,
-- or on a page.
--   csv_row .. k           the row of a stretch of the lamp with the number k;    stretch_row   that on a page
--   rows_lit row lit        the row of a stretch for each lamp whose mark of `lit` is set
--   csv_head               the first line of the values: "a header row" (RFC 4180)
--   quoted s               a text in double quotes, "a `"` within doubled"; in one line: a line's end is a space, but
--                          for the last one
--   csv_end began n said   the last row, of no lamp: a log of n seconds ends, and what is said of it, if anything is
--   table_stretch t lit from to   the rows of a stretch on a page; the table begins with the first
--   table_ended is_begun   the end of the table, or that no lamp burnt; and the end of the page
-- Assumes nothing.
use Rattle.std.specs.Prelude.{ℕ, ◌+◌, ◌-◌, ◌==◌, Bool, false, not, ◌&&◌, List, [], ◌∷◌, ◌++◌, length, codes}
use Rattle.std.specs.Prelude.{if◌then◌else◌, slice_index_or, Option, Some, None}
use Prim.Native.Char.{code}
use Rattle.std.specs.List.{flat_map, range_with_len}
use Rattle.textio.specs.Forms.{form_filled}
use Rattle.calendar.specs.declared.Moment.{Moment}
use Rattle.report.specs.declared.days.StretchNote.{StretchNote}
use Rattle.report.specs.declared.table.StretchTable.{StretchTable}
use Rattle.report.specs.declared.table.RowForm.{RowForm}
use Rattle.report.specs.declared.table.RowForm.TheVariants.{Csv, Html}
use Rattle.report.specs.Days.{is_any_lit, note_of, note_words}
use Rattle.report.specs.Times.{instant_text, spent_text}

-- from when to when
abbrev pub span_text : Option Moment → List ℕ → ℕ → ℕ → List ℕ
span_text began between from to = instant_text began from ++ (between ++ instant_text began to)

-- of a log of which no clock is known, both are empty
abbrev pub clock_fields : Option Moment → ℕ → ℕ → List ℕ
clock_fields None from to = codes ","
clock_fields (Some m) from to = span_text (Some m) (codes ",") from to

abbrev pub csv_tail : StretchNote → List ℕ
csv_tail note = codes "," ++ (note_words note ++ codes "\r\n")

unfoldable pub csv_row : Option Moment → Option ℕ → ℕ → ℕ → ℕ → List ℕ
csv_row began long from to lamp = form_filled (codes "#,#,#,#,") (lamp ∷ from ∷ to ∷ (to - from) ∷ [])
    ++ (clock_fields began from to ++ csv_tail (note_of began long from to))

unfoldable pub stretch_row : Option Moment → Option ℕ → ℕ → ℕ → ℕ → List ℕ
stretch_row began long from to lamp = form_filled (codes "<tr><th scope=\"row\">lamp #</th><td>") (lamp ∷ [])
    ++ (span_text began (codes "</td><td>") from to ++ (codes "</td><td>" ++ (spent_text (to - from)
    ++ (codes "</td><td>" ++ (note_words (note_of began long from to) ++ codes "</td></tr>\n")))))

abbrev pub row_as : RowForm → Option Moment → Option ℕ → ℕ → ℕ → ℕ → List ℕ
row_as Csv = csv_row
row_as Html = stretch_row

abbrev pub row_if : (ℕ → List ℕ) → Bool → ℕ → List ℕ
row_if row is_lit k = if is_lit then row (k + 1) else []

unfoldable pub rows_lit : (ℕ → List ℕ) → List Bool → List ℕ
rows_lit row lit = flat_map (λ k. row_if row (slice_index_or lit k false) k) (range_with_len 0 (length lit))

abbrev pub csv_head : List ℕ
csv_head = codes "lamp,from,to,seconds,began,ended,note\r\n"

abbrev pub quoted_byte : Bool → ℕ → List ℕ
quoted_byte is_last b =
    if b == code "\"" then codes "\"\""
    else if b == code "\n" then (if is_last then [] else codes " ")
    else b ∷ []

unfoldable pub quoted_text : List ℕ → List ℕ
quoted_text s =
    flat_map (λ k. quoted_byte (k + 1 == length s) (slice_index_or s k 0)) (range_with_len 0 (length s))

abbrev pub quoted : List ℕ → List ℕ
quoted s = codes "\"" ++ (quoted_text s ++ codes "\"")

abbrev pub end_note : Option (List ℕ) → List ℕ
end_note None = codes "end of the log"
end_note (Some s) = quoted s

-- of a log of which no clock is known, it is empty
abbrev pub ended_field : Option Moment → ℕ → List ℕ
ended_field None seconds = []
ended_field (Some m) seconds = instant_text (Some m) seconds

unfoldable pub csv_end : Option Moment → ℕ → Option (List ℕ) → List ℕ
csv_end began seconds said = form_filled (codes ",,#,,,") (seconds ∷ [])
    ++ (ended_field began seconds ++ (codes "," ++ (end_note said ++ codes "\r\n")))

abbrev pub stretches_begun : List ℕ
stretches_begun = codes "<table><caption>Each stretch</caption><thead><tr><th scope=\"col\">lamp</th>"
    ++ (codes "<th scope=\"col\">from</th><th scope=\"col\">to</th><th scope=\"col\">burnt</th>"
    ++ codes "<th scope=\"col\">note</th></tr></thead><tbody>\n")

abbrev pub stretches_begun_if : Bool → List Bool → List ℕ
stretches_begun_if is_begun lit = if not is_begun && is_any_lit lit then stretches_begun else []

unfoldable pub table_stretch : StretchTable → List Bool → ℕ → ℕ → List ℕ
table_stretch t lit from to =
    stretches_begun_if t.is_begun lit ++ rows_lit (stretch_row t.query.began t.query.long from to) lit

abbrev pub none_burnt : List ℕ
none_burnt = codes "<p>No lamp burnt.</p>\n"

abbrev pub rows_closed : List ℕ
rows_closed = codes "</tbody></table>\n"

abbrev pub rows_ended : Bool → List ℕ
rows_ended is_begun = if is_begun then rows_closed else none_burnt

unfoldable pub table_ended : Bool → List ℕ
table_ended is_begun = rows_ended is_begun ++ codes "</main></body></html>\n"
