use Rattle.demands.proofs.WrongBoardsFall.{ours_answers_halves}
use Rattle.demands.proofs.theorems.halves_by_turns_are_answered.Goals as goal

pub returns : goal.returns
returns c = record { power_set = ours_answers_halves.0; power_told = ours_answers_halves.1 }
