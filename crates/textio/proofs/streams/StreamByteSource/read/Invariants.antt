-- a read that failed consumed nothing, and the buffer keeps its length
use Rattle.std.proofs.Common.{◌≡◌, length}
use Rattle.std.specs.Io.KnownBytes.{Keeps}
use Rattle.textio.proofs.streams.StreamByteSource.read.Given as goal

abbrev pub invariant-loop : goal.invariant-loop
invariant-loop g l =
    (length l.buf ≡ length l.initial.buf)
    × Keeps (g.R.Read.remaining l.initial.self.0) (g.R.Read.remaining l.self.0)
