use Rattle.std.proofs.Common.{length}
use Rattle.textio.proofs.forms.+fill.Given as goal

abbrev pub decreases-fill : goal.decreases-fill
decreases-fill g l = length l.numbers.now
