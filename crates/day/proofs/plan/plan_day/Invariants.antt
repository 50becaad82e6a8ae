-- The jobs passed are each on their lowest rig, and keep every rule.
use Rattle.day.proofs.Greedily.{Going}
use Rattle.day.proofs.plan.plan_day.Given as goal

abbrev pub invariant-loop-j : goal.invariant-loop-j
invariant-loop-j l = Going l.jobs l.rigs l.plan l.j
