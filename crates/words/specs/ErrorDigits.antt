-- The six digits of the error status (RULES, Commands; PJLink 1.04, 4.7).
--   is_error_digit d     d is an error digit: 0 no error or not known, 1 a warning, 2 an error
--   is_errors ds         ds are six error digits
--   errors_text ds       the characters of the digits ds
--   errors_read s        the six digits at the front of s;    status_read s   the same, as an error status
-- Assumes nothing.
use Rattle.std.specs.List.{list_all}
use Rattle.std.specs.Prelude.{ℕ, ◌-◌, Bool, ◌&&◌, List, map, length, Option, Some, None, if◌then◌else◌, nat_le, ◌==◌}
use Prim.Native.Char.{code}
use Rattle.text.specs.Words.{◌from◌to◌}
use Rattle.words.specs.Codec.{letter, values_in, ◌>>=◌}
use Rattle.words.specs.Inputs.{number_digit}
use Rattle.words.specs.declared.errors.ErrorStatus.{ErrorStatus}

abbrev pub is_error_digit : ℕ → Bool
is_error_digit d = nat_le d 2

abbrev pub is_errors : List ℕ → Bool
is_errors ds = length ds == 6 && list_all is_error_digit ds

abbrev pub error_named : ℕ → Option ℕ
error_named b = if b from "0" to "2" then Some (b - code "0") else None

abbrev pub errors_text : List ℕ → List ℕ
errors_text ds = map number_digit ds

abbrev pub errors_read : List ℕ → Option (List ℕ × List ℕ)
errors_read s = values_in 6 (letter error_named) s

abbrev pub status_of : List ℕ → ErrorStatus
status_of ds = record { digits = ds }

abbrev pub status_read : List ℕ → Option (ErrorStatus × List ℕ)
status_read s = errors_read s >>= λ r. Some (status_of r.0, r.1)
