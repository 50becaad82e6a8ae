-- A number in decimal at the front of bytes, one to five digits, zeros in front allowed (RULES, Controller).
--   hours_most       the greatest number of five digits
--   is_numeral n     five digits can write the number n
--   figures s        how many digits are at the front of s
--   number_read s    the number at the front of s
-- Assumes nothing.
use Rattle.std.specs.Prelude.{ℕ, Bool, List, Option, Some, take, drop, nat_le}
use Rattle.std.specs.List.{prefix_len}
use Rattle.numbers.specs.Decimal.{is_digit, read_number}
use Rattle.words.specs.Codec.{◌>>=◌}

abbrev pub hours_most : ℕ
hours_most = 99999

abbrev pub is_numeral : ℕ → Bool
is_numeral n = nat_le n hours_most

abbrev pub figures : List ℕ → ℕ
figures s = prefix_len is_digit s

abbrev pub number_read : List ℕ → Option (ℕ × List ℕ)
number_read s = read_number (take (figures s) s) >>= λ n. Some (n, drop (figures s) s)
