-- The tables of the code.
--   table_of m k n   what m bits make of each of n numbers from k on
--   tables_of m n    n tables of 256, that of m bits and each of eight more
-- Assumes nothing.
use Rattle.std.specs.Prelude.{ℕ, zero, suc, ◌+◌, List, [], ◌∷◌}
use Rattle.crc32.specs.Crc.{bits_shifted}

unfoldable pub table_of : ℕ → ℕ → ℕ → List ℕ
table_of m k zero = []
table_of m k (suc n) = bits_shifted m k ∷ table_of m (suc k) n

unfoldable pub tables_of : ℕ → ℕ → List (List ℕ)
tables_of m zero = []
tables_of m (suc n) = table_of m 0 256 ∷ tables_of (8 + m) n
