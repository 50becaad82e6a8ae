-- What is printed of a lamp.
--   with_number word n       a word, and a number after it
--   stretch_line k f t       the lamp with the number k burnt from the second f to the second t
--   stretch_lines k ms f t   the line of a stretch for each lamp whose mark of ms is set, the first having the number k
--   total_line as bs cs k    of the lamp at place k its seconds at the start, burnt and now: the k-th of as, bs and cs
--   total_lines n ..         that of each of n lamps
-- Assumes nothing.
use Rattle.std.specs.Prelude.{ℕ, ◌+◌, Bool, List, [], ◌∷◌, ◌++◌, if◌then◌else◌, slice_index_or, codes}
use Rattle.std.specs.List.{flat_map, range_with_len}
use Rattle.numbers.specs.Decimal.{long_digits}
use Rattle.textio.specs.Forms.{form_filled}

abbrev pub with_number : List ℕ → ℕ → List ℕ
with_number word n = word ++ long_digits n

unfoldable pub stretch_line : ℕ → ℕ → ℕ → List ℕ
stretch_line lamp f t =
    ((with_number (codes "lamp ") lamp ++ with_number (codes " from ") f) ++ with_number (codes " to ") t) ++ codes "\n"

unfoldable pub stretch_lines : ℕ → List Bool → ℕ → ℕ → List ℕ
stretch_lines lamp [] f t = []
stretch_lines lamp (m ∷ ms) f t = (if m then stretch_line lamp f t else []) ++ stretch_lines (lamp + 1) ms f t

unfoldable pub total_line : List ℕ → List ℕ → List ℕ → ℕ → List ℕ
total_line starts burnt lasts k = form_filled (codes "lamp # start # burnt # now #\n")
    ((k + 1) ∷ slice_index_or starts k 0 ∷ slice_index_or burnt k 0 ∷ slice_index_or lasts k 0 ∷ [])

unfoldable pub total_lines : ℕ → List ℕ → List ℕ → List ℕ → List ℕ
total_lines lamps starts burnt lasts = flat_map (total_line starts burnt lasts) (range_with_len 0 lamps)
