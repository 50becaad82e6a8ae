use Rattle.std.proofs.Common.{arith}
use Rattle.demands.proofs.WrongBoardsFall.{drops_all_falls, ok_to_all_falls, refuses_all_falls, made_up_length_falls}
use Rattle.demands.proofs.WrongBoardsFall.{made_up_taken_falls, upper_cases_falls, forgets_at_nothing_falls}
use Rattle.demands.proofs.WrongBoardsFall.{others_nameless_falls, off_at_erra_falls, darkens_swallowing_falls}
use Rattle.demands.proofs.wrong_boards.wrong_lines_fall.Goals as goal

pub returns : goal.returns
returns c =
    grind (
      arith,
      drops_all_falls,
      ok_to_all_falls,
      refuses_all_falls,
      made_up_length_falls,
      made_up_taken_falls,
      upper_cases_falls,
      forgets_at_nothing_falls,
      others_nameless_falls,
      off_at_erra_falls,
      darkens_swallowing_falls,
    )
