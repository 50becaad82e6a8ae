use Rattle.std.proofs.Common.{arith}
use Rattle.board.proofs.WhichSetting.{set_up_which_3}
use Rattle.board.proofs.theorems.the_setting_told_goes_with_the_number.Goals as goal

pub returns : goal.returns
returns c = grind (arith, set_up_which_3)
