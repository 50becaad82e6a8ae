-- Numbers in bytes: "W and C as two bytes each; all highest first" (RULES, Stored form).
--   highest_first n x   the number x in n bytes
--   number_in s         the number that the bytes s are
-- Assumes nothing.
use Rattle.std.specs.Prelude.{ℕ, List}
use Rattle.text.specs.Scans.{itself}
use Rattle.text.specs.Bases.{value_in, low_digits}

unfoldable pub highest_first : ℕ → ℕ → List ℕ
highest_first n x = low_digits 256 itself n x

abbrev pub number_in : List ℕ → ℕ
number_in s = value_in 256 itself 0 s
