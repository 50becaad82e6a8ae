use Rattle.std.proofs.Common.{◌≡◌, ◌++◌, ◌+◌, ◌≤◌, drop, length}
use Rattle.words.specs.ErrorDigits.{errors_text}
use Rattle.words.proofs.errors.ErrorStatusWire.put.Given as goal

abbrev pub invariant-loop-digit : goal.invariant-loop-digit
invariant-loop-digit l =
    (l.out.items ++ errors_text (drop l.digit-index l.digit-items) ≡ l.fn.out.items ++ errors_text l.digit-items)
    × (length l.fn.out.items + length l.digit-items ≤ 136)
    × (length l.out.items ≡ length l.fn.out.items + l.digit-index)
    × (l.digit-items ≡ l.fn.self.digits)
