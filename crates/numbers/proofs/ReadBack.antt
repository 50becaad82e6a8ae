-- What is read was written so, and below 100000; each writing of a number is read as that number, its own digits and
-- those with zeros before them (RULES, Controller).
-- Assumes nothing.
use Rattle.std.specs.List.{list_all}
use Rattle.std.proofs.Common.{ℕ, zero, suc, ◌+◌, ◌<◌, ◌≤◌, ◌≡◌, refl, Bool, true, false, List, ◌++◌, arith, length}
use Rattle.std.proofs.Common.{replicate, length-append, Option, Some, None, if◌then◌else◌}
use Rattle.std.proofs.lemmas.List.{length-replicate}
use Rattle.std.proofs.Math.Nat.{pow-le-pow_right}
use Prim.Native.Char.{code}
use Rattle.text.proofs.Bases.{value_below}
use Rattle.text.proofs.Scanning.{list_all-append}
use Rattle.numbers.specs.Decimal.{digits, is_digit, decimal_value, read_digits, most_digits, WritesNumber, read_number}
use Rattle.numbers.proofs.Digits.{digits_at_least_1, digits_at_most_5, digits_are_digits}
use Rattle.numbers.proofs.Values.{decimal_value-digits, digits_worth, decimal_value-append}

pub writing_read : (s : List ℕ) {n : ℕ} → WritesNumber n s → read_number s ≡ Some n
unfolding read_number read_digits
writing_read s w = grind arith

pub digits_written : (n : ℕ) → n < 100000 → WritesNumber n (digits n)
digits_written n h = grind (arith, digits_at_least_1, digits_at_most_5, digits_are_digits, decimal_value-digits)

pub read_back : (n : ℕ) → n < 100000 → read_number (digits n) ≡ Some n
read_back n h = writing_read (digits n) (digits_written n h)

zeros_are_digits : (k : ℕ) → list_all is_digit (replicate k (code "0")) ≡ true
zeros_are_digits zero = refl
zeros_are_digits (suc k) = zeros_are_digits k

-- zeros before a writing, as many as there is room for
pub padded_written : (k : ℕ) (s : List ℕ) {n : ℕ} → WritesNumber n s → k + length s ≤ most_digits
    → WritesNumber n (replicate k (code "0") ++ s)
padded_written k s w h =
    grind (arith, length-append, length-replicate, list_all-append, zeros_are_digits, decimal_value-append)

chosen : (t : Bool) (a : Option ℕ) (n : ℕ) → (if t then a else None) ≡ Some n → (t ≡ true) × (a ≡ Some n)
chosen t a n h = grind arith

-- what all digits tell, and what a byte that is none
pub digits_told : (s : List ℕ) (n : ℕ) → read_digits s ≡ Some n → (list_all is_digit s ≡ true) × (decimal_value s ≡ n)
unfolding read_digits
digits_told s n e = grind arith

pub digits_untold : (s : List ℕ) → read_digits s ≡ None → list_all is_digit s ≡ false
unfolding read_digits
digits_untold s = grind arith

-- at most five digits are below 100000
pub digits_below : (s : List ℕ) (n : ℕ) → read_digits s ≡ Some n → length s ≤ most_digits → n < 100000
digits_below s n e h = grind (arith, digits_told, pow-le-pow_right, value_below, digits_worth)

pub read_written : (s : List ℕ) (n : ℕ) → read_number s ≡ Some n → WritesNumber n s
unfolding read_number read_digits
read_written s n e = grind arith

pub read_below : (s : List ℕ) (n : ℕ) → read_number s ≡ Some n → n < 100000
read_below s n e = grind (arith, read_written, pow-le-pow_right, value_below, digits_worth)
