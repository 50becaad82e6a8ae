use Rattle.demands.proofs.WrongBoardsFall.{ours_rests}
use Rattle.demands.proofs.theorems.a_disabled_lamp_stays_dark.Goals as goal

pub returns : goal.returns
returns c = record { burns = ours_rests.0; rests = ours_rests.1 }
