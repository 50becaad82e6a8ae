-- The loop that reads decimal digits: what is read where a byte is none, and at the end of the bytes.
-- Assumes nothing.
use Rattle.std.proofs.Common.{arith, ℕ, ◌<◌, ◌≤◌, ◌≡◌, false, List, length, slice_index_or, Some, None}
use Rattle.text.proofs.Choices.{if_no}
use Rattle.text.proofs.Scanning.{one_fails, all_passed}
use Rattle.text.proofs.DigitsRead.{ReadTo, all_read}
use Rattle.numbers.specs.Decimal.{is_digit, decimal_worth, read_digits}

module _ (s : List ℕ) {v i : ℕ} (p : ReadTo 10 decimal_worth is_digit s v i) where
  pub no_digit : i < length s → is_digit (slice_index_or s i 0) ≡ false → read_digits s ≡ None
  unfolding read_digits
  no_digit h e = if_no _ _ (one_fails is_digit s 0 p.passed h e)

  pub digits_read : length s ≤ i → read_digits s ≡ Some v
  unfolding read_digits
  digits_read h = grind (arith, all_passed, all_read)
