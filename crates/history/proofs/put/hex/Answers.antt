use Rattle.std.proofs.Common.{arith, refl}
use Rattle.history.proofs.Fits.{length-hex_text}
use Rattle.history.proofs.put.hex.Goals as goal

pub returns : goal.returns
returns c =
    record { lent = refl; memory = c.put_hex.ensures; count = omega (arith, length-hex_text c.args.s.now) }
