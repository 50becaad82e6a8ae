-- What is appended to a message (RFC 1321, 3.1 and 3.2).
--   zeros_after n     how many zero bytes bring n + 1 bytes to 448 bits modulo 512: to 56 bytes modulo 64
--   bit_length n      the length in bits of n bytes, modulo 2^64 ("only the low-order 64 bits of b are used")
--   padding n b       after n bytes: a single "1" bit, "0" bits, and the 64 bits of b, low-order byte first
--   padded_message s  the message s with its padding and its length
-- Assumes nothing.
use Rattle.std.specs.Prelude.{ℕ, ◌+◌, ◌-◌, ◌*◌, ◌%◌, ◌^◌, List, ◌∷◌, ◌++◌, length, replicate}
use Rattle.std.specs.Int.{to_le_bytes, w64}

unfoldable pub zeros_after : ℕ → ℕ
zeros_after n = (64 + 56 - (n + 1) % 64) % 64

abbrev pub bit_length : ℕ → ℕ
bit_length n = (8 * n) % 2 ^ 64

unfoldable pub padding : ℕ → ℕ → List ℕ
padding n b = 0x80 ∷ (replicate (zeros_after n) 0 ++ to_le_bytes w64 b)

abbrev pub padded_message : List ℕ → List ℕ
padded_message s = s ++ padding (length s) (bit_length (length s))
