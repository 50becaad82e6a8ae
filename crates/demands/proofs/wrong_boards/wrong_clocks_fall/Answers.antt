use Rattle.std.proofs.Common.{arith}
use Rattle.demands.proofs.WrongBoardsFall.{still_clock_falls, still_clock_adds, first_only_falls, drops_part_hour_falls}
use Rattle.demands.proofs.wrong_boards.wrong_clocks_fall.Goals as goal

pub returns : goal.returns
returns c = grind (arith, still_clock_falls, still_clock_adds, first_only_falls, drops_part_hour_falls)
