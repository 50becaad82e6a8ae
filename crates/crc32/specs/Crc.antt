-- CRC-32 as zlib, gzip and PNG have it (RFC 1952, 8; ISO 3309 and ITU-T V.42, 8.1.1.6.2): the remainder of a text by a
-- polynomial, in 32 bits, of which the lowest stands for the highest power. All bits are ones before the text, and the
-- remainder is complemented after it.
--   all_ones                all 32 bits
--   polynomial          x^32+x^26+x^23+x^22+x^16+x^12+x^11+x^10+x^8+x^7+x^5+x^4+x^2+x+1, x^32 left out
--   bit_shifted r       the remainder r, one bit further
--   bits_shifted n r    n bits further
--   after_byte r b      the remainder after the byte b, from r before it; the lowest bit of a byte comes first
--   remainder_on r s    after the bytes s
--   crc32_on c s        the CRC-32 of a text and s behind it, where that of the text is c
--   crc32_of s          that of s
-- Assumes nothing.
use Rattle.std.specs.Prelude.{ℕ, zero, suc, ◌/◌, ◌%◌, List, [], ◌∷◌, bit_xor, if◌then◌else◌, ◌==◌}

abbrev pub all_ones : ℕ
all_ones = 0xffffffff

abbrev pub polynomial : ℕ
polynomial = 0xedb88320

unfoldable pub bit_shifted : ℕ → ℕ
bit_shifted r = if r % 2 == 0 then r / 2 else bit_xor (r / 2) polynomial

unfoldable pub bits_shifted : ℕ → ℕ → ℕ
bits_shifted zero r = r
bits_shifted (suc n) r = bits_shifted n (bit_shifted r)

unfoldable pub after_byte : ℕ → ℕ → ℕ
after_byte r b = bits_shifted 8 (bit_xor r b)

unfoldable pub remainder_on : ℕ → List ℕ → ℕ
remainder_on r [] = r
remainder_on r (b ∷ s) = remainder_on (after_byte r b) s

unfoldable pub crc32_on : ℕ → List ℕ → ℕ
crc32_on c s = bit_xor all_ones (remainder_on (bit_xor all_ones c) s)

unfoldable pub crc32_of : List ℕ → ℕ
crc32_of s = bit_xor all_ones (remainder_on all_ones s)
