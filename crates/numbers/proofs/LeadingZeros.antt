-- No number is written with a leading zero (RULES, Commands), though one is read: only 0 begins with the digit 0.
-- Assumes nothing.
use Rattle.std.proofs.Common.{ℕ, ◌/◌, ◌^◌, ◌<◌, ◌≤◌, ◌≡◌, sym, ◌∙◌, List, [], ◌∷◌, ◌++◌, arith, length, slice_index_or}
use Rattle.std.proofs.Common.{length-append}
use Rattle.std.proofs.Math.ListN.{get_or-append}
use Prim.Native.Char.{code}
use Rattle.numbers.specs.Decimal.{last_digit, digits}
use Rattle.numbers.proofs.Digits.{digits_all}

record Begun (n : ℕ) (l : List ℕ) : Type 0 where
  some : 1 ≤ length l
  first : 1 ≤ n → slice_index_or l 0 0 ≡ code "0" → ⊥

digits_begun : (n : ℕ) → n < 2 ^ 32 → Begun n (digits n)
digits_begun = digits_all Begun low high
  where
    low : (n : ℕ) → n < 10 → Begun n (last_digit n ∷ [])
    low n h = record { some = omega arith; first = λ p e. omega arith }

    high : (n : ℕ) (l : List ℕ) → 10 ≤ n → Begun (n / 10) l → Begun n (l ++ (last_digit n ∷ []))
    high n l h b = record {
      some = omega (arith, length-append l (last_digit n ∷ []), b.some);
      first = λ p e. b.first (omega arith) (sym (get_or-append l (last_digit n ∷ []) 0 0 b.some) ∙ e);
    }

pub digits_no_leading_zero : (n : ℕ) → 1 ≤ n → n < 2 ^ 32 → slice_index_or (digits n) 0 0 ≡ code "0" → ⊥
digits_no_leading_zero n p h = (digits_begun n h).first p
