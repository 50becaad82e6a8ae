-- A day and a time of day, as RFC 3339 writes them without an offset: `2026-11-23T06:00`, or with seconds
-- `2026-11-23T06:00:30`.
--   two_in t k        the number that two digits of t say, at the indices k and k + 1
--   moment_of ..      this day and time, if the calendar and the clock have them
--   moment_in t       the day and time that the text t says, or none
-- Assumes nothing.
use Rattle.std.specs.Prelude.{ℕ, ◌+◌, ◌-◌, ◌*◌, Bool, ◌&&◌, ◌||◌, ◌==◌, nat_le, List, length}
use Rattle.std.specs.Prelude.{if◌then◌else◌, Option, Some, None}
use Rattle.text.specs.Words.{◌is◌, ◌from◌to◌}
use Rattle.words.specs.Bytes.{◌at◌}
use Rattle.words.specs.Codec.{◌>>=◌}
use Rattle.calendar.specs.Days.{month_length, day_number}
use Rattle.calendar.specs.declared.Moment.{Moment}

abbrev pub is_decimal : ℕ → Bool
is_decimal b = b from "0" to "9"

abbrev pub two_of : ℕ → ℕ → Option ℕ
two_of tens ones = if is_decimal tens && is_decimal ones then Some ((tens - 48) * 10 + (ones - 48)) else None

unfoldable pub two_in : List ℕ → ℕ → Option ℕ
two_in t k = two_of (t at k) (t at (k + 1))

abbrev pub is_spelt : List ℕ → Bool
is_spelt t = (length t == 16 || length t == 19 && t at 16 is ":")
    && t at 4 is "-" && t at 7 is "-" && t at 10 is "T" && t at 13 is ":"

abbrev pub second_part : List ℕ → Option ℕ
second_part t = if length t == 16 then Some 0 else two_in t 17

unfoldable pub moment_of : ℕ → ℕ → ℕ → ℕ → ℕ → ℕ → Option Moment
moment_of y m d h n s =
    if nat_le 1 m && nat_le m 12 && nat_le 1 d && nat_le d (month_length y m) && nat_le h 23 && nat_le n 59
    && nat_le s 59
    then Some (record {
      date = record { year = y; month = m; day = d };
      number = day_number y m d;
      second = h * 3600 + n * 60 + s;
    })
    else None

unfoldable pub moment_in : List ℕ → Option Moment
moment_in t =
    if is_spelt t
    then (two_in t 0 >>= λ c. two_in t 2 >>= λ y. two_in t 5 >>= λ m. two_in t 8 >>= λ d. two_in t 11 >>= λ h.
    two_in t 14 >>= λ n. second_part t >>= λ s. moment_of (c * 100 + y) m d h n s)
    else None
