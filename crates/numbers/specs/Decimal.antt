-- Decimal numbers, as lines are written and read.
-- Document RULES, Commands: "the hours are written most significant digit first, no leading zeros".
-- Document RULES, Controller: "hours 0 to 99999 with no leading zero", which RULES, Controller, amends: "The number
-- reader should take one to five digits, leading zeros included".
--   last_digit n        the last digit of n, as a character
--   decimal_worth b     the number that the digit b stands for
--   decimal_value s     the number whose digits are s
--   digits n            all digits of the u32 n, most significant first; a number below ten has one
--   long_digits n       the same of a u64: the number of a line in a log may be larger than a u32
--   digits_in k n       the same, where at most k quotients by ten are taken
--   is_digit b          the byte b is a digit
--   read_digits s       the value of s, where each of its bytes is a digit
--   most_digits         how many digits are read at most, and so 99999 the greatest number
--   WritesNumber n s    the bytes s are one to `most_digits` digits whose value is n: a number has several such
--                       writings
--   read_number s       the value of s, where it is one to `most_digits` digits
-- Assumes nothing.
use Rattle.std.specs.Prelude.{ℕ, zero, suc, ◌+◌, ◌-◌, ◌/◌, ◌%◌, ◌≤◌, ◌≡◌, Bool, true, ◌&&◌, List, [], ◌∷◌, ◌++◌, length}
use Rattle.std.specs.Prelude.{Option, Some, None, if◌then◌else◌, nat_lt, nat_le}
use Rattle.std.specs.List.{list_all}
use Prim.Native.Char.{code}
use Rattle.text.specs.Words.{◌from◌to◌}
use Rattle.text.specs.Bases.{value_in}

abbrev pub last_digit : ℕ → ℕ
last_digit n = code "0" + n % 10

abbrev pub decimal_worth : ℕ → ℕ
decimal_worth b = b - code "0"

abbrev pub decimal_value : List ℕ → ℕ
decimal_value s = value_in 10 decimal_worth 0 s

abbrev pub digits_in : ℕ → ℕ → List ℕ
digits_in zero n = last_digit n ∷ []
digits_in (suc k) n = if nat_lt n 10 then last_digit n ∷ [] else digits_in k (n / 10) ++ (last_digit n ∷ [])

-- a u32 has at most ten digits
unfoldable pub digits : ℕ → List ℕ
digits n = digits_in 9 n

-- a u64 has at most twenty
unfoldable pub long_digits : ℕ → List ℕ
long_digits n = digits_in 19 n

abbrev pub is_digit : ℕ → Bool
is_digit b = b from "0" to "9"

unfoldable pub read_digits : List ℕ → Option ℕ
read_digits s = if list_all is_digit s then Some (decimal_value s) else None

abbrev pub most_digits : ℕ
most_digits = 5

pub record WritesNumber (n : ℕ) (s : List ℕ) : Type 0 where
  pub some : 1 ≤ length s
  pub short : length s ≤ most_digits
  pub figures : list_all is_digit s ≡ true
  pub value : decimal_value s ≡ n

unfoldable pub read_number : List ℕ → Option ℕ
read_number s = if nat_le 1 (length s) && nat_le (length s) most_digits then read_digits s else None
