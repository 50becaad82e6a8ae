use Rattle.std.proofs.Common.{arith}
use Rattle.demands.proofs.WrongBoardsFall.{forgets_others_power_falls, one_line_for_all_falls}
use Rattle.demands.proofs.wrong_boards.wrong_places_fall.Goals as goal

pub returns : goal.returns
returns c = grind (arith, forgets_others_power_falls, one_line_for_all_falls)
