use Rattle.std.proofs.Common.{arith}
use Rattle.history.proofs.InSixteens.{printable_by_mask}
use Rattle.history.proofs.plain.are_eight.Goals as goal

pub returns : goal.returns
returns c = printable_by_mask 8 c.args.bytes c.fits-bytes (omega arith)
