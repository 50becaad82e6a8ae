-- It is the answer for the sixteens that the loop has passed.
use Rattle.std.proofs.Common.{◌≡◌, ◌*◌, take}
use Rattle.std.specs.List.{list_all}
use Rattle.history.specs.Lines.{is_printable}
use Rattle.history.proofs.plain.are_sixteens.Given as goal

abbrev pub invariant-loop-i : goal.invariant-loop-i
invariant-loop-i l = l.all ≡ list_all is_printable (take (l.i * 16) l.s)
