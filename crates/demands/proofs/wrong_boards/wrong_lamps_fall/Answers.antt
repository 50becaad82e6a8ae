use Rattle.std.proofs.Common.{arith}
use Rattle.demands.proofs.WrongBoardsFall.{burns_all_lamps_falls, counts_disabled_falls, forgets_marks_falls}
use Rattle.demands.proofs.wrong_boards.wrong_lamps_fall.Goals as goal

pub returns : goal.returns
returns c = grind (arith, burns_all_lamps_falls, counts_disabled_falls, forgets_marks_falls)
