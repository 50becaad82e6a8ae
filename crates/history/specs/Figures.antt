-- So many digits of a number, and the tables of the code, by which two are written at once.
--   lowest k n    the k lowest digits of n, as characters, the highest of them first
--   tens_of k n   the next to last digit, as a character, of each of n numbers from k on
--   ones_of k n   the last
-- Assumes nothing.
use Rattle.std.specs.Prelude.{ℕ, zero, suc, ◌/◌, List, [], ◌∷◌, ◌++◌}
use Rattle.numbers.specs.Decimal.{last_digit}

unfoldable pub lowest : ℕ → ℕ → List ℕ
lowest zero n = []
lowest (suc k) n = lowest k (n / 10) ++ (last_digit n ∷ [])

unfoldable pub tens_of : ℕ → ℕ → List ℕ
tens_of k zero = []
tens_of k (suc n) = last_digit (k / 10) ∷ tens_of (suc k) n

unfoldable pub ones_of : ℕ → ℕ → List ℕ
ones_of k zero = []
ones_of k (suc n) = last_digit k ∷ ones_of (suc k) n
