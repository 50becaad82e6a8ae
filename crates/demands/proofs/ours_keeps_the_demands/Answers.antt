use Rattle.demands.proofs.KeepsRunning.{ours_keeps_running}
use Rattle.demands.proofs.SpeaksPjlink.{ours_speaks_pjlink}
use Rattle.demands.proofs.CountsSeconds.{ours_counts_seconds}
use Rattle.demands.proofs.Interleaved.{interleaved}
use Rattle.demands.proofs.Unheard.{ours_unheard}
use Rattle.demands.proofs.BoardSwap.{ours_swap}
use Rattle.ours.specs.Board.{ours}
use Rattle.demands.proofs.TwoBoards.{ours_meets}
use Rattle.demands.proofs.ClassOne.{class_1_alone}
use Rattle.demands.proofs.ours_keeps_the_demands.Goals as goal

pub returns : goal.returns
returns c = record {
  keeps_running = ours_keeps_running;
  speaks_pjlink = ours_speaks_pjlink;
  counts_seconds = ours_counts_seconds;
  places_stand = interleaved;
  outsider_unheard = ours_unheard;
  survives_a_swap = ours_swap;
  class_1_alone = class_1_alone ours ours_meets;
}
