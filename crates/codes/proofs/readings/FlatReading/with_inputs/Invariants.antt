-- The array has the characters of the inputs passed.
use Rattle.std.proofs.Common.{◌≡◌, take}
use Rattle.text.specs.Rooms.{filled_room}
use Rattle.codes.specs.Readings.{characters}
use Rattle.codes.proofs.readings.FlatReading.with_inputs.Given as goal

abbrev pub invariant-loop-k : goal.invariant-loop-k
invariant-loop-k l = l.pairs ≡ filled_room 0 64 (characters (take l.k l.inputs))
