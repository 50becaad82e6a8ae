use Rattle.demands.proofs.TwoBoards.{ours_meets, are_alike}
use Rattle.demands.proofs.ClassOne.{class_1_alone}
use Rattle.demands.proofs.theorems.boards_that_meet_the_demands_are_alike.Goals as goal

pub returns : goal.returns
returns c start = record { ours_is_one = ours_meets; alike = are_alike; class_1_alone = class_1_alone }
