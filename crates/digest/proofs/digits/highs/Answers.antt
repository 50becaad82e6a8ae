-- The table is computed.
use Rattle.std.proofs.Common.{refl}
use Rattle.digest.specs.Hex.{hex_digit}
use Rattle.digest.specs.BothDigits.{highs_of}
use Rattle.digest.proofs.digits.highs.Goals as goal

pub returns : goal.returns
unfolding highs_of hex_digit
returns c = refl
