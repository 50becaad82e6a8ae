use Rattle.crc32.proofs.GoesOn.{crc32_on-append, crc32_on-crc32_of, crc32_on-zero}
use Rattle.crc32.proofs.theorems.sums_go_on.Goals as goal

pub returns-clause-parts : goal.returns-clause-parts
returns-clause-parts c = crc32_on-append

pub returns-clause-whole : goal.returns-clause-whole
returns-clause-whole c = crc32_on-crc32_of

pub returns-clause-begun : goal.returns-clause-begun
returns-clause-begun c = crc32_on-zero
