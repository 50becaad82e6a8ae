-- What is left says the rest of the bytes.
use Rattle.std.proofs.Common.{◌≡◌, ◌+◌, ◌*◌, ◌++◌, length}
use Rattle.history.specs.Lines.{hex_bytes}
use Rattle.history.proofs.read.put_bytes.Given as goal

abbrev pub invariant-loop-k : goal.invariant-loop-k
invariant-loop-k l =
    (l.room.items ++ hex_bytes l.rest ≡ hex_bytes l.fn.s)
    × (length l.room.items ≡ l._k)
    × (2 * l._k + length l.rest ≡ length l.fn.s)
