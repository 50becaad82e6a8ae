-- The table is computed.
use Rattle.std.proofs.Common.{refl}
use Rattle.digest.specs.Hex.{hex_digit}
use Rattle.digest.specs.BothDigits.{lows_of}
use Rattle.digest.proofs.digits.lows.Goals as goal

pub returns : goal.returns
unfolding lows_of hex_digit
returns c = refl
