-- Each lamp passed has its seconds in a cleared room.
use Rattle.std.proofs.Common.{◌/◌, length}
use Rattle.record.specs.Limits.{lamps_most}
use Rattle.text.proofs.RoomsFilled.{IsCopied}
use Rattle.stored.specs.Sections.{seconds_in}
use Rattle.stored.proofs.loading.seconds_of.Given as goal

abbrev pub invariant-loop-i : goal.invariant-loop-i
invariant-loop-i l = IsCopied 0 lamps_most (seconds_in (length l.bytes / 4) l.bytes) l.list l.i
