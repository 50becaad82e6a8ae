-- The definition computes what is published.
-- Assumes nothing.
use Rattle.std.proofs.Common.{refl}
use Rattle.crc32.specs.Crc.{bit_shifted, bits_shifted, after_byte, remainder_on, crc32_of}
use Rattle.crc32.specs.Published.{Published}

pub published : Published
unfolding bit_shifted bits_shifted after_byte remainder_on crc32_of
published = record { check_value = refl; no_bytes = refl; last_of_png = refl; pangram = refl }
