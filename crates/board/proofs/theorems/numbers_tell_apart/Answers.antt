use Rattle.board.proofs.OneOfLists.{flat_verdict_back, flat_plan_back}
use Rattle.board.proofs.WhichSetting.{setting_number_back}
use Rattle.board.proofs.theorems.numbers_tell_apart.Goals as goal

pub returns : goal.returns
returns c = record {
  verdicts = flat_verdict_back;
  plans = flat_plan_back;
  settings = setting_number_back;
}
