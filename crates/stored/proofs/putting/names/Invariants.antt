-- The names that the loop has passed are written.
use Rattle.std.proofs.Common.{take, map, ◌≤◌, ◌+◌, ◌*◌}
use Rattle.stored.specs.Sections.{texts_bytes}
use Rattle.stored.specs.Form.{name_stored}
use Rattle.lent.specs.Puts.{Puts}
use Rattle.stored.proofs.putting.names.Given as goal

abbrev pub invariant-loop-name : goal.invariant-loop-name
invariant-loop-name l =
    Puts l.initial.writer l.writer (texts_bytes (map name_stored (take l.name-index l.names)))
    × (l.writer.at ≤ l.initial.writer.at + 129 * l.name-index)
