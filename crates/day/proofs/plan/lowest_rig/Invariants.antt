-- On no rig passed does the job keep every rule.
use Rattle.std.proofs.Common.{ℕ, ◌<◌, [], ◌∷◌, ◌++◌}
use Rattle.day.specs.Rules.{Keeps}
use Rattle.day.specs.Plans.{on_rig}
use Rattle.day.proofs.plan.lowest_rig.Given as goal

abbrev pub invariant-loop-rig : goal.invariant-loop-rig
invariant-loop-rig l = (q : ℕ) → q < l.rig → ¬ Keeps l.rigs (l.placed ++ on_rig l.job q ∷ [])
