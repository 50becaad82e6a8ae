-- The tables of the code, by which the two digits of a byte are read.
--   highs_of k n   the higher digit of each of n bytes from k on
--   lows_of k n    the lower
-- Assumes nothing.
use Rattle.std.specs.Prelude.{ℕ, zero, suc, ◌/◌, ◌%◌, List, [], ◌∷◌}
use Rattle.digest.specs.Hex.{hex_digit}

unfoldable pub highs_of : ℕ → ℕ → List ℕ
highs_of k zero = []
highs_of k (suc n) = hex_digit (k / 16 % 16) ∷ highs_of (suc k) n

unfoldable pub lows_of : ℕ → ℕ → List ℕ
lows_of k zero = []
lows_of k (suc n) = hex_digit (k % 16) ∷ lows_of (suc k) n
