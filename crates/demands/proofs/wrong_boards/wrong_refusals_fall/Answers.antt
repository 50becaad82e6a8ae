use Rattle.std.proofs.Common.{arith}
use Rattle.demands.proofs.WrongBoardsFall.{writes_first_falls, changes_refused_falls}
use Rattle.demands.proofs.wrong_boards.wrong_refusals_fall.Goals as goal

pub returns : goal.returns
returns c = grind (arith, writes_first_falls, changes_refused_falls)
