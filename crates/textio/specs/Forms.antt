-- A form with numbers in it.
--   form_filled form ns    the form with the next of the numbers ns instead of each `#`
-- Assumes nothing.
use Rattle.std.specs.Prelude.{ℕ, Bool, List, [], ◌∷◌, ◌++◌, ◌==◌}
use Rattle.std.specs.List.{before_first, after_first}
use Prim.Native.Char.{code}
use Rattle.numbers.specs.Decimal.{long_digits}

abbrev pub is_gap : ℕ → Bool
is_gap b = b == code "#"

unfoldable pub form_filled : List ℕ → List ℕ → List ℕ
form_filled form [] = form
form_filled form (n ∷ ns) = before_first is_gap form ++ (long_digits n ++ form_filled (after_first is_gap form) ns)
