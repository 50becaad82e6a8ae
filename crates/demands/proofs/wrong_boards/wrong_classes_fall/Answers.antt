use Rattle.std.proofs.Common.{arith}
use Rattle.demands.proofs.WrongBoardsFall.{answers_class_2_falls, refuses_letters_falls, volume_wraps_falls}
use Rattle.demands.proofs.wrong_boards.wrong_classes_fall.Goals as goal

pub returns : goal.returns
returns c = grind (arith, answers_class_2_falls, refuses_letters_falls, volume_wraps_falls)
