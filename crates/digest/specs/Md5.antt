-- The digest of a message (RFC 1321, 3.3 to 3.5).
--   start_words         3.3: the four words before the first block
--   blocks_of k xs q    3.4: the four words after the first k blocks of xs, from the four words q
--   whole_blocks xs q   .. after every whole block of xs
--   digest_bytes q      3.5: the four words as bytes, low-order byte of A first
--   md5_of s            the 16 bytes of the digest of s
--   finishing q s b     the digest of a message of b bits that ends with s, from the words q after the blocks before s
-- Assumes nothing.
use Rattle.std.specs.Prelude.{ℕ, zero, suc, ◌*◌, ◌/◌, List, ◌++◌, length, take, drop}
use Rattle.std.specs.Int.{to_le_bytes, w32}
use Rattle.digest.specs.Padding.{padding, padded_message}
use Rattle.digest.specs.Rounds.{block_of}
use Rattle.digest.specs.declared.Buffer.{Buffer}

abbrev pub start_words : Buffer
start_words = record { a = 0x67452301; b = 0xefcdab89; c = 0x98badcfe; d = 0x10325476 }

unfoldable pub blocks_of : ℕ → List ℕ → Buffer → Buffer
blocks_of zero xs q = q
blocks_of (suc k) xs q = block_of (take 64 (drop (k * 64) xs)) (blocks_of k xs q)

abbrev pub whole_blocks : List ℕ → Buffer → Buffer
whole_blocks xs q = blocks_of (length xs / 64) xs q

abbrev pub digest_bytes : Buffer → List ℕ
digest_bytes q = to_le_bytes w32 q.a ++ (to_le_bytes w32 q.b ++ (to_le_bytes w32 q.c ++ to_le_bytes w32 q.d))

unfoldable pub md5_of : List ℕ → List ℕ
md5_of s = digest_bytes (whole_blocks (padded_message s) start_words)

abbrev pub finishing : Buffer → List ℕ → ℕ → List ℕ
finishing q s b = digest_bytes (whole_blocks (s ++ padding (length s) b) q)
