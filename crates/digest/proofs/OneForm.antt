-- No other digits stand for a number: hex digits are those of the number that they stand for.
-- Assumes nothing.
use Rattle.std.specs.List.{list_all}
use Rattle.std.proofs.Common.{ℕ, ◌≡◌, ◌<◌, Bool, true, not, ◌||◌, List, arith, refl, ◌==◌, length, slice_index_or}
use Rattle.text.proofs.Bases.{low_digits_one_form}
use Rattle.text.proofs.EachBelow.{each_below}
use Rattle.text.proofs.Scanning.{list_all_at}
use Rattle.digest.specs.Hex.{hex_digit, hex_worth, hex_digits, hex_value, is_hex_digit}
use Rattle.digest.proofs.Laws.{hex_worth_small}

abbrev is_right : ℕ → Bool
is_right b = not (is_hex_digit b) || (hex_digit (hex_worth b) == b)

below_103 : (b : ℕ) → is_hex_digit b ≡ true → b < 103
below_103 b h = grind arith

right : (b : ℕ) → b < 103 → is_right b ≡ true
unfolding hex_digit hex_worth
right = each_below is_right 103 refl

hex_digit-hex_worth : (b : ℕ) → is_hex_digit b ≡ true → hex_digit (hex_worth b) ≡ b
hex_digit-hex_worth b h = grind (arith, right b (below_103 b h))

pub hex_one_form : (s : List ℕ) → list_all is_hex_digit s ≡ true → hex_digits (length s) (hex_value s) ≡ s
hex_one_form s h =
    low_digits_one_form 16 hex_worth hex_digit 0 s (λ i l. hex_worth_small (slice_index_or s i 0))
    (λ i l. hex_digit-hex_worth (slice_index_or s i 0) (list_all_at is_hex_digit s 0 h i l))
