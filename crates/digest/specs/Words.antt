-- Words of 32 bits (RFC 1321, 2).
--   x plus y          "+": addition of words, modulo 2^32
--   complement x      "not(X)": the bit-wise complement of a word
--   x <<< s           "X <<< s": x circularly shifted left by s bit positions
--   word_at xs k      the word of the four bytes of xs from k on, low-order byte first
-- Assumes nothing.
use Rattle.std.specs.Prelude.{ℕ, ◌+◌, ◌-◌, ◌*◌, ◌/◌, ◌%◌, ◌^◌, List, slice_index}

infixl 60 ◌plus◌
infixl 65 ◌<<<◌
abbrev pub ◌plus◌ : ℕ → ℕ → ℕ
x plus y = (x + y) % 2 ^ 32

abbrev pub complement : ℕ → ℕ
complement x = 2 ^ 32 - 1 - x

abbrev pub ◌<<<◌ : ℕ → ℕ → ℕ
x <<< s = (x * 2 ^ s) % 2 ^ 32 + x / 2 ^ (32 - s)

abbrev pub word_at : List ℕ → ℕ → ℕ
word_at xs k =
    slice_index xs k + slice_index xs (k + 1) * 2 ^ 8 + slice_index xs (k + 2) * 2 ^ 16
    + slice_index xs (k + 3) * 2 ^ 24
