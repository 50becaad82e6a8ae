-- Things written one after the other.
--   each_in_turn w xs   what w has for each of xs, in turn
-- Assumes nothing.
use Rattle.std.specs.Prelude.{List, [], ◌∷◌, ◌++◌}

abbrev pub each_in_turn : {A B : Type 0} → (A → List B) → List A → List B
each_in_turn w [] = []
each_in_turn w (x ∷ xs) = w x ++ each_in_turn w xs
