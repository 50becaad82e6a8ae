-- Numbers in bytes, the highest first: as the code takes them apart and puts them together, written and read back, and
-- no other bytes for one number.
-- Assumes nothing.
use Rattle.std.proofs.Common.{ℕ, ◌^◌, ◌<◌, ◌≡◌, List, div-one, length}
use Rattle.std.specs.Int.{to_be_bytes, w32}
use Rattle.text.specs.Scans.{itself}
use Rattle.text.proofs.Bases.{Digits, length-low_digits, bytes_back, bytes_one_form}
use Rattle.numbers.specs.HighestFirst.{highest_first, number_in}

module _ (n x : ℕ) where
  pub length-highest_first : length (highest_first n x) ≡ n
  unfolding highest_first
  length-highest_first = length-low_digits 256 itself n x

  pub highest_back : x < 256 ^ n → number_in (highest_first n x) ≡ x
  unfolding highest_first
  highest_back h = bytes_back n x h

pub highest_one_form : (s : List ℕ) → Digits 256 itself s → highest_first (length s) (number_in s) ≡ s
unfolding highest_first
highest_one_form s d = bytes_one_form s d

-- four bytes as std has them
pub four_highest : (x : ℕ) → highest_first 4 x ≡ to_be_bytes w32 x
unfolding highest_first
four_highest x = rw (div-one x)
