-- Digests and numbers as lowercase hexadecimal digits, and what a controller sends that knows the password (PJLink
-- 1.04, 5.1).
--   hex_digit n           the digit of a number below 16
--   hex_digits n x        the n lowest digits of the number x, the highest of them first
--   hex_worth b           the number that the digit b stands for; 0 for any other byte
--   hex_value s           the number whose digits are s
--   hex_of xs             the bytes xs, two digits each
--   is_hex_digit b        b is one of these digits
--   leading_digest r p    the digest of the random number's eight digits and the password, in hex
-- Assumes nothing.
use Rattle.std.specs.Prelude.{ℕ, ◌+◌, ◌-◌, Bool, ◌||◌, List, ◌++◌, slice_index, if◌then◌else◌, codes}
use Prim.Native.Char.{code}
use Rattle.text.specs.Words.{◌from◌to◌}
use Rattle.text.specs.InTurn.{each_in_turn}
use Rattle.text.specs.Bases.{value_in, low_digits}
use Rattle.digest.specs.Md5.{md5_of}

unfoldable pub hex_digit : ℕ → ℕ
hex_digit n = slice_index (codes "0123456789abcdef") n

abbrev pub hex_digits : ℕ → ℕ → List ℕ
hex_digits n x = low_digits 16 hex_digit n x

unfoldable pub hex_worth : ℕ → ℕ
hex_worth b =
    if b from "0" to "9" then b - code "0"
    else if b from "a" to "f" then b - code "a" + 10
    else 0

abbrev pub hex_value : List ℕ → ℕ
hex_value s = value_in 16 hex_worth 0 s

unfoldable pub hex_of : List ℕ → List ℕ
hex_of xs = each_in_turn (hex_digits 2) xs

abbrev pub is_hex_digit : ℕ → Bool
is_hex_digit b = b from "0" to "9" || b from "a" to "f"

abbrev pub leading_digest : ℕ → List ℕ → List ℕ
leading_digest random password = hex_of (md5_of (hex_digits 8 random ++ password))
