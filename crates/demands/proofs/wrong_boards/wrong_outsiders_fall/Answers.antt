use Rattle.std.proofs.Common.{arith}
use Rattle.demands.proofs.WrongBoardsFall.{closes_next_falls, counts_failures_falls, refuses_elsewhere_falls}
use Rattle.demands.proofs.wrong_boards.wrong_outsiders_fall.Goals as goal

pub returns : goal.returns
returns c = grind (arith, closes_next_falls, counts_failures_falls, refuses_elsewhere_falls)
