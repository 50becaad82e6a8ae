-- The setting that is told is the error's.
use Rattle.std.proofs.Common.{arith}
use Rattle.setup.proofs.Refusals.{out_checked, short_checked}
use Rattle.setup.proofs.wanted.Wanted.check.Goals as goal

pub returns-in-Some : goal.returns-in-Some
returns-in-Some c = out_checked _ _ c.in-Some.ensures

pub returns-then-not-is_long_enough : goal.returns-then-not-is_long_enough
returns-then-not-is_long_enough c = grind (arith, short_checked)
