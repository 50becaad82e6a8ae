-- Numbers written and read, by computing (RULES, Lamps and Controller).
-- Assumes nothing.
use Rattle.std.proofs.Common.{◌≡◌, refl, map, [], ◌∷◌, codes, Some, None}
use Rattle.numbers.specs.Decimal.{digits, read_digits, read_number}

pub numbers_written : map digits (0 ∷ 7 ∷ 10 ∷ 99999 ∷ 4294967295 ∷ [])
    ≡ codes "0" ∷ codes "7" ∷ codes "10" ∷ codes "99999" ∷ codes "4294967295" ∷ []
unfolding digits
numbers_written = refl

pub numbers_taken : map read_number (codes "0" ∷ codes "00" ∷ codes "00000" ∷ codes "00412" ∷ codes "99999" ∷ [])
    ≡ Some 0 ∷ Some 0 ∷ Some 0 ∷ Some 412 ∷ Some 99999 ∷ []
unfolding read_digits read_number
numbers_taken = refl

pub no_numbers : map read_number (codes "000000" ∷ codes "100000" ∷ [] ∷ codes "1a" ∷ [])
    ≡ None ∷ None ∷ None ∷ None ∷ []
unfolding read_digits read_number
no_numbers = refl

pub ruleset worked_numbers = (numbers_written, numbers_taken, no_numbers)
