-- What is published of CRC-32: the check value, that of no bytes, and that of a PNG file's last chunk (its type IEND).
-- That the definition gives it is proved.
--   Published     the definition gives what is published
-- Assumes nothing.
use Rattle.std.specs.Prelude.{◌≡◌, codes}
use Rattle.crc32.specs.Crc.{crc32_of}

pub record Published : Type 0 where
  pub check_value : crc32_of (codes "123456789") ≡ 0xcbf43926
  pub no_bytes : crc32_of (codes "") ≡ 0
  pub last_of_png : crc32_of (codes "IEND") ≡ 0xae426082
  pub pangram : crc32_of (codes "The quick brown fox jumps over the lazy dog") ≡ 0x414fa339
