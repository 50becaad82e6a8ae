-- What a scan of a list asks.
--   is_same_by f s t   s, each of its bytes turned by f, is t
--   itself          leaves a byte as it is
--   index_of b s    the place of the first b in s, and the length of s where there is none
-- Assumes nothing.
use Rattle.std.specs.Prelude.{ℕ, Bool, true, false, ◌&&◌, List, [], ◌∷◌, ◌==◌}
use Rattle.std.specs.List.{position_or_len}

abbrev pub is_same_by : (ℕ → ℕ) → List ℕ → List ℕ → Bool
is_same_by f [] [] = true
is_same_by f [] (y ∷ ys) = false
is_same_by f (x ∷ xs) [] = false
is_same_by f (x ∷ xs) (y ∷ ys) = f x == y && is_same_by f xs ys

abbrev pub itself : ℕ → ℕ
itself b = b

abbrev pub index_of : ℕ → List ℕ → ℕ
index_of b s = position_or_len (λ x. x == b) s
