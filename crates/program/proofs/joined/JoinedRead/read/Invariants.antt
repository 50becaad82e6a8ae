use Rattle.std.proofs.Common.{◌≡◌, ◌<◌, ◌≤◌, length, take}
use Rattle.std.specs.Io.KnownBytes.{Consumes, IsAtEnd}
use Rattle.program.specs.Joined.{join_known, joined_bytes, source_left, names_seen}
use Rattle.program.proofs.joined.JoinedRead.read.Given as goal

abbrev pub invariant-loop-count : goal.invariant-loop-count
invariant-loop-count g l =
    (l.count ≤ length l.buf) × (length l.buf ≡ length l.fn.buf)
    × Consumes
    (join_known (source_left g.O.Source.Read.remaining l.fn.self.source)
    (joined_bytes (g.O.Opens.log_bytes l.fn.self.opens.now) (names_seen l.fn.self.later.now)))
    (join_known (source_left g.O.Source.Read.remaining l.self.source)
    (joined_bytes (g.O.Opens.log_bytes l.self.opens.now) (names_seen l.self.later.now)))
    (take l.count l.buf)
    × (l.count ≡ 0 → 0 < length l.buf → IsAtEnd (source_left g.O.Source.Read.remaining l.self.source))

abbrev pub decreases-loop-count : goal.decreases-loop-count
decreases-loop-count g l = length l.self.later.now
