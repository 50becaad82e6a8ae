-- No place passed is closed.
use Rattle.record.proofs.LowestClosed.{IsUnclosed}
use Rattle.device.proofs.places.lowest_closed.Given as goal

abbrev pub invariant-loop-place : goal.invariant-loop-place
invariant-loop-place l = IsUnclosed l.fn.connections l.place
