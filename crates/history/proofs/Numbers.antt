-- A number in a line, case by case.
-- Assumes nothing.
use Rattle.std.specs.List.{list_all}
use Rattle.std.proofs.Common.{ℕ, ◌≤◌, ◌<◌, ◌≡◌, true, false, ◌&&◌, List, arith, length, nat_le, le-leb, Some, None}
use Rattle.std.proofs.lemmas.Bool.{lt-leb}
use Rattle.text.proofs.Choices.{both}
use Rattle.numbers.specs.Decimal.{is_digit, decimal_value}
use Rattle.history.specs.Lines.{is_shortest, decimal_in}

module _ (s : List ℕ) (some : 1 ≤ length s) (few : length s ≤ 10) (shortest : is_shortest s ≡ true) where
  sized : (nat_le 1 (length s) && nat_le (length s) 10 && is_shortest s) ≡ true
  sized = both (both (le-leb 1 (length s) some) (le-leb (length s) 10 few)) shortest

  pub number_no_digit : list_all is_digit s ≡ false → decimal_in s ≡ None
  unfolding decimal_in
  number_no_digit e = simp (sized, e)

  module _ (figures : list_all is_digit s ≡ true) (v : ℕ) (value : decimal_value s ≡ v) where
    pub number_over : 4294967295 < v → decimal_in s ≡ None
    unfolding decimal_in
    number_over h = simp (sized, figures, lt-leb (decimal_value s) 4294967295 (omega arith))

    pub number_read : v ≤ 4294967295 → decimal_in s ≡ Some v
    unfolding decimal_in
    number_read h = grind arith
