-- The test of the 64 places is computed.
use Rattle.std.proofs.Common.{refl}
use Rattle.digest.specs.Rounds.{constant_of, table_t, word_numbers, word_number}
use Rattle.digest.specs.Sums.{operation_index}
use Rattle.digest.proofs.Tables.{are_constants}
use Rattle.digest.proofs.block.rounds.constants.Goals as goal

pub returns : goal.returns
unfolding operation_index word_number word_numbers constant_of table_t
returns c = are_constants _ refl
