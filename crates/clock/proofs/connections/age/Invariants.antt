-- Each connection passed is n seconds later, and the others stand as they were.
use Rattle.std.proofs.Common.{◌≡◌, ◌++◌, map, take, drop}
use Rattle.clock.specs.Second.{times, connection_second}
use Rattle.clock.proofs.connections.age.Given as goal

abbrev pub invariant-loop-place : goal.invariant-loop-place
invariant-loop-place l =
    l.connections
    ≡ map (times connection_second l.seconds) (take l.place l.initial.connections) ++ drop l.place l.initial.connections
