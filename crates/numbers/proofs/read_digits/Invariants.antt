-- Up to the index each byte is a digit, and v is their value, below 10 to the index.
use Rattle.text.proofs.DigitsRead.{ReadTo}
use Rattle.numbers.specs.Decimal.{is_digit, decimal_worth}
use Rattle.numbers.proofs.read_digits.Given as goal

abbrev pub invariant-loop-b : goal.invariant-loop-b
invariant-loop-b l = ReadTo 10 decimal_worth is_digit l.bytes l.v l.b-index
