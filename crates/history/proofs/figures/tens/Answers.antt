-- The table is computed.
use Rattle.std.proofs.Common.{refl}
use Rattle.history.specs.Figures.{tens_of}
use Rattle.history.proofs.figures.tens.Goals as goal

pub returns : goal.returns
unfolding tens_of
returns c = refl
