-- What the documents say of digests: the test suite of RFC 1321, A.5, and the example of PJLink, 5.1. That the
-- definition gives it is proved (proofs/Vectors).
--   s hashes-to h     the digest of s, in hex, is h
-- Assumes nothing.
use Rattle.std.specs.Prelude.{◌≡◌, ℕ, List, codes}
use Prim.Native.String.{String}
use Rattle.digest.specs.Md5.{md5_of}
use Rattle.digest.specs.Hex.{hex_of, leading_digest}

infix 40 ◌hashes_to◌
abbrev pub ◌hashes_to◌ : List ℕ → String → Type 0
s hashes_to h = hex_of (md5_of s) ≡ codes h

pub record TestSuite : Type 0 where
  pub empty : codes "" hashes_to "d41d8cd98f00b204e9800998ecf8427e"
  pub a : codes "a" hashes_to "0cc175b9c0f1b6a831c399e269772661"
  pub abc : codes "abc" hashes_to "900150983cd24fb0d6963f7d28e17f72"
  pub message_digest : codes "message digest" hashes_to "f96b697d7cb7938d525a2f31aaf161d0"
  pub alphabet : codes "abcdefghijklmnopqrstuvwxyz" hashes_to "c3fcd3d76192e4007dfb496cca67e13b"
  pub alphanumeric : codes "ABCDEFGHIJKLMNOPQRSTUVWXYZabcdefghijklmnopqrstuvwxyz0123456789"
      hashes_to "d174ab98d277d9f5a5611c2c9f419d9f"
  pub eighty : codes "12345678901234567890123456789012345678901234567890123456789012345678901234567890"
      hashes_to "57edf4a22be3c955ac49da2e2107b67a"
  pub projector : leading_digest 0x498e4a67 (codes "JBMIAProjectorLink") ≡ codes "5d8409bc1c3fa39749434aa3a5c38682"
