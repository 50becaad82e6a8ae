-- The seconds that the loop has passed are written.
use Rattle.std.proofs.Common.{take, ◌+◌, ◌*◌, ◌≤◌}
use Rattle.stored.specs.Sections.{seconds_bytes}
use Rattle.lent.specs.Puts.{Puts}
use Rattle.stored.proofs.putting.seconds.Given as goal

abbrev pub invariant-loop-x : goal.invariant-loop-x
invariant-loop-x l =
    Puts l.initial.writer l.writer (seconds_bytes (take l.x-index l.lamps))
    × (l.writer.at ≤ l.initial.writer.at + 4 * l.x-index)
