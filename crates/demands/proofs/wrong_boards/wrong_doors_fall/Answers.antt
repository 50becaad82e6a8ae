use Rattle.std.proofs.Common.{arith}
use Rattle.demands.proofs.WrongBoardsFall.{forgets_password_falls, ignores_password_falls, greets_with_zero_falls}
use Rattle.demands.proofs.WrongBoardsFall.{time_opens_falls, failed_answers_falls, never_closes_falls}
use Rattle.demands.proofs.WrongBoardsFall.{hides_faults_falls, hides_errors_falls, takes_at_opening_falls}
use Rattle.demands.proofs.wrong_boards.wrong_doors_fall.Goals as goal

pub returns : goal.returns
returns c =
    grind (
      arith,
      forgets_password_falls,
      ignores_password_falls,
      greets_with_zero_falls,
      time_opens_falls,
      failed_answers_falls,
      never_closes_falls,
      hides_faults_falls,
      hides_errors_falls,
      takes_at_opening_falls,
    )
