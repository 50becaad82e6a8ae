-- Of what is written item by item: one more; and one thing after the other.
-- Assumes nothing.
use Rattle.std.proofs.Common.{ℕ, ◌+◌, ◌/◌, ◌^◌, ◌<◌, ◌≤◌, ◌≡◌, List, [], ◌∷◌, ◌++◌, length, take, slice_index_or}
use Rattle.std.proofs.Common.{sym, ap, ◌∙◌, arith}
use Rattle.text.proofs.InTurn.{each_in_turn-take}
use Rattle.lent.proofs.Writing.{puts_then}
use Rattle.numbers.specs.Decimal.{last_digit, digits}
use Rattle.numbers.proofs.Digits.{digits_at_most_10, digits_long, long_low, long_high}
use Rattle.digest.specs.Hex.{hex_digits}
use Rattle.history.specs.Lines.{hex_text}
use Rattle.history.proofs.Fits.{command_some, stated_short}

pub hex_text-take : (xs : List ℕ) (i : ℕ) → i < length xs
    → hex_text (take (i + 1) xs) ≡ hex_text (take i xs) ++ hex_digits 2 (slice_index_or xs i 0)
hex_text-take xs i h = each_in_turn-take (hex_digits 2) xs i 0 h

-- the digits of a number, by the quotient and the last
pub digits_low : (n : ℕ) → n < 10 → digits n ≡ last_digit n ∷ []
digits_low n h = digits_long n (omega arith) ∙ long_low n h

pub digits_high : (n : ℕ) → 10 ≤ n → n < 2 ^ 32 → digits n ≡ digits (n / 10) ++ (last_digit n ∷ [])
digits_high n h f =
    digits_long n f ∙ long_high n h (omega arith)
    ∙ ap (λ (l : List ℕ). l ++ (last_digit n ∷ [])) (sym (digits_long (n / 10) (omega arith)))

-- what follows what, and that it fits
pub ruleset steps = (puts_then, digits_at_most_10, command_some, stated_short)
