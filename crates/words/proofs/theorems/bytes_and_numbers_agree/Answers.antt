use Rattle.std.proofs.Common.{arith}
use Rattle.std.proofs.lemmas.Str.{IsUtf8-from_is_utf8, is_utf8-from_IsUtf8, encodes_same}
use Rattle.words.proofs.Utf8Table.{IsOctets-encode_utf8_all, IsUtf8-IsOctets}
use Rattle.words.proofs.theorems.bytes_and_numbers_agree.Goals as goal

pub returns : goal.returns
returns c =
    grind (arith, IsUtf8-from_is_utf8, IsOctets-encode_utf8_all, is_utf8-from_IsUtf8, IsUtf8-IsOctets, encodes_same)
