-- Six digits fit the room of the error digits.
use Rattle.std.proofs.Common.{arith}
use Rattle.record.proofs.Rules.{errors_long}
use Rattle.record.proofs.legality.Legal.set_errors.Goals as goal

pub copy_from_slice-requires : goal.copy_from_slice-requires
copy_from_slice-requires c = grind (arith, errors_long)
