use Rattle.std.proofs.Common.{arith}
use Rattle.history.proofs.InSixteens.{printable_by_mask}
use Rattle.history.proofs.plain.are_sixteen.Goals as goal

pub returns : goal.returns
returns c = printable_by_mask 16 c.args.bytes c.fits-bytes (omega arith)
