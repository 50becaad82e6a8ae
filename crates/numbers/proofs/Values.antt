-- The value of decimal digits: of the digits of a number, and with zeros before them.
-- Assumes nothing.
use Rattle.std.specs.List.{list_all}
use Rattle.std.proofs.Common.{ℕ, ◌/◌, ◌^◌, ◌<◌, ◌≤◌, ◌≡◌, refl, true, List, [], ◌∷◌, ◌++◌, arith, replicate}
use Prim.Native.Char.{code}
use Rattle.text.proofs.Bases.{Digits, value_in-append, value_padded}
use Rattle.text.proofs.Scanning.{list_all_at}
use Rattle.numbers.specs.Decimal.{last_digit, digits, is_digit, decimal_worth, decimal_value}
use Rattle.numbers.proofs.Digits.{digits_all}

pub decimal_value-digits : (n : ℕ) → n < 2 ^ 32 → decimal_value (digits n) ≡ n
decimal_value-digits = digits_all (λ (n : ℕ) (l : List ℕ). decimal_value l ≡ n) low high
  where
    low : (n : ℕ) → n < 10 → decimal_value (last_digit n ∷ []) ≡ n
    low n h = omega arith

    high : (n : ℕ) (l : List ℕ) → 10 ≤ n → decimal_value l ≡ n / 10 → decimal_value (l ++ (last_digit n ∷ [])) ≡ n
    high n l h e = rw (value_in-append 10 decimal_worth 0 l (last_digit n ∷ []), e) (omega arith)

pub digits_worth : (s : List ℕ) → list_all is_digit s ≡ true → Digits 10 decimal_worth s
digits_worth s e i h = grind (arith, list_all_at)

-- zeros before the digits change nothing
pub decimal_value-append : (k : ℕ) (s : List ℕ) → decimal_value (replicate k (code "0") ++ s) ≡ decimal_value s
decimal_value-append = value_padded 10 decimal_worth (code "0") refl
