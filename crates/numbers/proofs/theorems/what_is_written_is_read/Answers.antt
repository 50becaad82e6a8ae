use Rattle.numbers.proofs.ReadBack.{read_back, padded_written}
use Rattle.numbers.proofs.LeadingZeros.{digits_no_leading_zero}
use Rattle.numbers.proofs.theorems.what_is_written_is_read.Goals as goal

pub returns : goal.returns
returns c = search (read_back, padded_written, digits_no_leading_zero)
