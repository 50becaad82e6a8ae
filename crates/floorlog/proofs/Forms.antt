-- What a line says, case by case.
-- Assumes nothing.
use Rattle.std.specs.List.{list_all}
use Rattle.std.proofs.Common.{ℕ, ◌≤◌, ◌<◌, ◌≡◌, true, false, ◌&&◌, List, arith, length, nat_le, le-leb}
use Rattle.std.proofs.lemmas.Bool.{lt-leb}
use Rattle.text.proofs.Choices.{both}
use Rattle.numbers.specs.Decimal.{is_digit, decimal_value}
use Rattle.clock.specs.Passing.{seconds_most}
use Rattle.floorlog.specs.Events.{passes, no_such, log_line_most, seconds_said, event}

-- the seconds after `T`
module _ (s : List ℕ) (some : 1 ≤ length s) (few : length s ≤ 10) where
  sized : (nat_le 1 (length s) && nat_le (length s) 10) ≡ true
  sized = both (le-leb 1 (length s) some) (le-leb (length s) 10 few)

  pub seconds_no_digit : list_all is_digit s ≡ false → seconds_said s ≡ no_such
  unfolding seconds_said
  seconds_no_digit e = simp (sized, e)

  module _ (figures : list_all is_digit s ≡ true) (v : ℕ) (value : decimal_value s ≡ v) where
    pub seconds_over : seconds_most < v → seconds_said s ≡ no_such
    unfolding seconds_said
    seconds_over h = simp (sized, figures, lt-leb (decimal_value s) seconds_most (omega arith))

    pub seconds_passes : v ≤ seconds_most → seconds_said s ≡ passes v
    unfolding seconds_said
    seconds_passes h = grind arith

-- any line
module _ (l : List ℕ) where
  pub event_overlong : log_line_most < length l → event l ≡ no_such
  unfolding event
  event_overlong h = simp (lt-leb (length l) log_line_most h)
