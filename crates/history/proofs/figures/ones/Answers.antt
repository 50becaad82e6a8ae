-- The table is computed.
use Rattle.std.proofs.Common.{refl}
use Rattle.history.specs.Figures.{ones_of}
use Rattle.history.proofs.figures.ones.Goals as goal

pub returns : goal.returns
unfolding ones_of
returns c = refl
