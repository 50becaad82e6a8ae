use Rattle.std.proofs.Common.{◌≡◌, ◌+◌, drop}
use Rattle.words.specs.Numerals.{figures}
use Rattle.words.proofs.number.figures.Given as goal

abbrev pub invariant-loop-i : goal.invariant-loop-i
invariant-loop-i l = figures l.s ≡ l.i + figures (drop l.i l.s)
