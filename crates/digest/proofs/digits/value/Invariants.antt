-- At the index the value of the digits passed is v, below 16 to the index. No byte is refused.
use Rattle.std.proofs.Common.{ℕ, true}
use Rattle.text.proofs.DigitsRead.{ReadTo}
use Rattle.digest.specs.Hex.{hex_worth}
use Rattle.digest.proofs.digits.value.Given as goal

abbrev pub invariant-loop-b : goal.invariant-loop-b
invariant-loop-b l = ReadTo 16 hex_worth (λ (b : ℕ). true) l.s l.v l.b-index
