-- The bytes that the loop has passed are written.
use Rattle.std.proofs.Common.{◌≡◌, take}
use Rattle.std.proofs.lemmas.List.Edits.{sets}
use Rattle.history.specs.Lines.{hex_text}
use Rattle.history.proofs.put.put_hex.Given as goal

abbrev pub invariant-loop-i : goal.invariant-loop-i
invariant-loop-i l = l.out ≡ sets l.fn.out l.at (hex_text (take l.i l.s))
