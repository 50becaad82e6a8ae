-- each lamp so far has its seconds on the line
use Rattle.std.proofs.Common.{◌≡◌, ◌++◌, take}
use Rattle.history.specs.Shown.{lamps_shown}
use Rattle.history.proofs.shown.put_lamps.Given as goal

abbrev pub invariant-loop-lamp : goal.invariant-loop-lamp
invariant-loop-lamp g l = l.out.items ≡ l.initial.out.items ++ lamps_shown (take l.lamp-index l.lamps)
