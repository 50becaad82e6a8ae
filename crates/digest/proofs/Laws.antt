-- What a crate above may use of `md5_of`, `hex_of` and `hex_digits`, which it leaves shut: their lengths, and that each
-- byte of a hex text is a digit. `leading_digest` is such a text, `hex_of (md5_of ..)`.
-- Assumes nothing.
use Rattle.std.specs.List.{list_all}
use Rattle.std.proofs.Common.{◌≡◌, ℕ, ◌*◌, ◌^◌, ◌<◌, ◌≤◌, true, false, not, ◌&&◌, List}
use Rattle.std.proofs.Common.{length, refl, ap, ◌∙◌, arith, ne_eqb, ◌==◌, nat_le, slice_index_or}
use Prim.Native.Char.{code}
use Rattle.text.specs.Words.{◌is◌}
use Rattle.text.proofs.Choices.{if_by}
use Rattle.text.proofs.Bases.{length-low_digits, list_all-low_digits, low_digits_back, value_below}
use Rattle.text.proofs.InTurn.{length-each_in_turn, list_all-each_in_turn}
use Rattle.text.proofs.Scanning.{list_all_implies}
use Rattle.digest.specs.Md5.{md5_of}
use Rattle.digest.specs.Hex.{hex_digit, hex_worth, hex_of, hex_digits, hex_value, is_hex_digit, leading_digest}
use Rattle.digest.proofs.Tables.{is_hex_digit-hex_digit, hex_worth-hex_digit}

pub md5_length : (s : List ℕ) → length (md5_of s) ≡ 16
unfolding md5_of
md5_length s = refl

pub length-hex_digits : (n x : ℕ) → length (hex_digits n x) ≡ n
length-hex_digits = length-low_digits 16 hex_digit

pub hex_length : (xs : List ℕ) → length (hex_of xs) ≡ 2 * length xs
unfolding hex_of
hex_length = length-each_in_turn (hex_digits 2) 2 (length-hex_digits 2)

pub hex_of_md5_length : (s : List ℕ) → length (hex_of (md5_of s)) ≡ 32
hex_of_md5_length s = hex_length (md5_of s) ∙ ap (λ (n : ℕ). 2 * n) (md5_length s)

pub length-leading_digest : (random : ℕ) (password : List ℕ) → length (leading_digest random password) ≡ 32
length-leading_digest random password = hex_of_md5_length _

pub between : (l h b : ℕ) → (nat_le l b && nat_le b h) ≡ true → (l ≤ b) × (b ≤ h)
between l h b e = grind arith

pub hex_digits_are_digits : (n x : ℕ) → list_all is_hex_digit (hex_digits n x) ≡ true
hex_digits_are_digits = list_all-low_digits 16 hex_digit is_hex_digit (omega arith) is_hex_digit-hex_digit

-- the digits of a number are read as the number, and whatever n bytes are read as is below 16 to the n
pub hex_value_back : (n x : ℕ) → x < 16 ^ n → hex_value (hex_digits n x) ≡ x
hex_value_back = low_digits_back 16 hex_worth hex_digit (omega arith) hex_worth-hex_digit

pub hex_worth_small : (b : ℕ) → hex_worth b < 16
unfolding hex_worth
hex_worth_small b = grind (arith, if_by, between)

pub hex_value_below : (s : List ℕ) → hex_value s < 16 ^ length s
hex_value_below s = value_below 16 hex_worth s (λ i h. hex_worth_small (slice_index_or s i 0))

pub hex_are_digits : (xs : List ℕ) → list_all is_hex_digit (hex_of xs) ≡ true
unfolding hex_of
hex_are_digits = list_all-each_in_turn (hex_digits 2) is_hex_digit (hex_digits_are_digits 2)

no_digit : (x : ℕ) → is_hex_digit x ≡ false → (b : ℕ) → is_hex_digit b ≡ true → not (b == x) ≡ true
no_digit x n b e = ap not (ne_eqb b x (λ p. let z : ◌≡◌ {A = ℕ} 0 1 = cc in absurd (omega arith)))

pub digits_have_no : (x : ℕ) → is_hex_digit x ≡ false → (xs : List ℕ) → list_all is_hex_digit xs ≡ true
    → list_all (λ b. not (b == x)) xs ≡ true
digits_have_no x n = list_all_implies is_hex_digit (λ b. not (b == x)) (no_digit x n)

pub digits_have_no_cr : (xs : List ℕ) → list_all is_hex_digit xs ≡ true → list_all (λ b. not (b is "\r")) xs ≡ true
digits_have_no_cr = digits_have_no (code "\r") refl
