-- No rig passed burns more than it has left.
use Rattle.std.proofs.Common.{ℕ, ◌<◌}
use Rattle.day.specs.Rules.{Lasts}
use Rattle.day.proofs.check.spent.Given as goal

abbrev pub invariant-loop-k : goal.invariant-loop-k
invariant-loop-k l = (q : ℕ) → q < l.k → Lasts l.rigs l.plan q
