-- No job passed shares a second with a later one.
use Rattle.std.proofs.Common.{ℕ, ◌<◌}
use Rattle.day.specs.Verdicts.{IsAloneAt}
use Rattle.day.proofs.check.clash.Given as goal

abbrev pub invariant-loop-i : goal.invariant-loop-i
invariant-loop-i l = (k : ℕ) → k < l.i → IsAloneAt l.rigs l.plan k
