-- what is taken waits behind what waited
use Rattle.std.proofs.Common.{arith}
use Rattle.std.proofs.KnownBytes.{append_known-grown}
use Rattle.textio.proofs.Known.{range_grown}
use Rattle.textio.proofs.writer.BufferedWriterByteSink.write.Goals as goal

pub returns-clause-bytes : goal.returns-clause-bytes
returns-clause-bytes g c = grind (arith, append_known-grown, range_grown)
