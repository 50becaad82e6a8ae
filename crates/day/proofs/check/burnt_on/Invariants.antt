-- The total is what the jobs passed burn, less than 2^33 for each.
use Rattle.std.proofs.Common.{◌≡◌, ◌*◌, ◌≤◌, take}
use Rattle.day.specs.Rules.{burnt_together}
use Rattle.day.proofs.check.burnt_on.Given as goal

abbrev pub invariant-loop-p : goal.invariant-loop-p
invariant-loop-p l = record {
  summed : l.total ≡ burnt_together l.number l.rig (take l.p-index l.plan);
  small : l.total ≤ 8_589_934_592 * l.p-index;
}
