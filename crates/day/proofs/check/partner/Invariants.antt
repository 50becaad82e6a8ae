-- No job passed shares a second with job i.
use Rattle.std.proofs.Common.{ℕ, ◌<◌}
use Rattle.day.specs.Verdicts.{AreApartAt}
use Rattle.day.proofs.check.partner.Given as goal

abbrev pub invariant-loop-j : goal.invariant-loop-j
invariant-loop-j l = (k : ℕ) → l.i < k → k < l.j → AreApartAt l.rigs l.plan l.i k
