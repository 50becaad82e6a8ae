use Rattle.std.proofs.Common.{arith}
use Rattle.record.proofs.Results.{set_up_3, set_up_8, gives_3_first, gives_8_password, gives_0_none, none_gives_0}
use Rattle.record.proofs.theorems.the_number_tells_the_setting.Goals as goal

pub returns : goal.returns
returns c = search (arith, set_up_3, set_up_8, gives_3_first, gives_8_password, gives_0_none, none_gives_0)
