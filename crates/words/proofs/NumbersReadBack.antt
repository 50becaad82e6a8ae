-- The character of an input's number, 1 to 9 and A to Z: read, it gives the number back, and is no other's (RULES,
-- Class 2).
-- Assumes nothing.
use Rattle.std.proofs.Common.{ℕ, ◌+◌, ◌≤◌, ◌<◌, ◌≡◌, refl, Bool, true, not, ◌&&◌, ◌||◌, arith}
use Rattle.std.proofs.Common.{nat_le, ◌==◌, eqb-true, le-leb}
use Prim.Native.Char.{code}
use Rattle.text.proofs.Choices.{both, both_left, both_right}
use Rattle.text.proofs.EachBelow.{all_below, each_below}
use Rattle.words.specs.Bytes.{is_alnum}
use Rattle.words.specs.Sources.{is_number_character, number_for, number_character}

-- a number 1 to 35
abbrev is_number : ℕ → Bool
is_number n = nat_le 1 n && nat_le n 35

-- each of the 35 numbers, and each character up to Z, by computing
abbrev writes_same : ℕ → Bool
writes_same n = not (is_number n) || (is_number_character (number_character n) && number_for (number_character n) == n)

abbrev reads_same : ℕ → Bool
reads_same b = not (is_number_character b) || (is_number (number_for b) && number_character (number_for b) == b)

written_back : all_below writes_same 36 ≡ true
unfolding number_for number_character
written_back = refl

-- up to Z
abbrev most : ℕ
most = code "Z" + 1

read_back : all_below reads_same most ≡ true
unfolding number_for number_character
read_back = refl

implied : (t u : Bool) → (not t || u) ≡ true → t ≡ true → u ≡ true
implied t u h g = grind arith

module _ (n : ℕ) (low : 1 ≤ n) (high : n ≤ 35) where
  back : (is_number_character (number_character n) && number_for (number_character n) == n) ≡ true
  back =
      implied (is_number n) _ (each_below writes_same 36 written_back n (omega arith))
      (both (le-leb 1 n low) (le-leb n 35 high))

  pub is_number_character-number_character : is_number_character (number_character n) ≡ true
  is_number_character-number_character = both_left (is_number_character (number_character n)) _ back

  pub number_back : number_for (number_character n) ≡ n
  number_back = eqb-true _ n (both_right (is_number_character (number_character n)) _ back)

module _ (b : ℕ) (named : is_number_character b ≡ true) where
  up_to_Z : b < most
  up_to_Z = grind arith

  told : (is_number (number_for b) && number_character (number_for b) == b) ≡ true
  told = implied (is_number_character b) _ (each_below reads_same most read_back b up_to_Z) named

  pub number_low : 1 ≤ number_for b
  number_low = grind (arith, told)

  pub number_high : number_for b ≤ 35
  number_high = grind (arith, told)

  pub number_character-number_for : number_character (number_for b) ≡ b
  number_character-number_for = eqb-true _ b (both_right (is_number (number_for b)) _ told)

-- whatever the number, its character is a digit or a capital letter
pub is_alnum-number_character : (n : ℕ) → is_alnum (number_character n) ≡ true
unfolding number_character
is_alnum-number_character n = grind arith
