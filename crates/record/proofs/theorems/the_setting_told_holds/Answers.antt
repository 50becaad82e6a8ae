use Rattle.std.proofs.Common.{arith}
use Rattle.record.proofs.OutOfRange.{none_in_range, in_range_none}
use Rattle.record.proofs.theorems.the_setting_told_holds.Goals as goal

pub returns : goal.returns
returns c = grind (arith, none_in_range, in_range_none)
