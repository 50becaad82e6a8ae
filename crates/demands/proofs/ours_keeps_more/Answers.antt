use Rattle.ours.specs.Board.{ours}
use Rattle.demands.proofs.CallsKeep.{random_kept}
use Rattle.demands.proofs.Unheard.{ours_unheard, unheard_throughout}
use Rattle.demands.proofs.UnheardSamples.{openings_matter}
use Rattle.demands.proofs.ours_keeps_more.Goals as goal

pub returns : goal.returns
returns c = record {
  random_number_kept = random_kept;
  unheard_throughout = λ w p. unheard_throughout ours p ours_unheard w;
  openings_matter = openings_matter;
}
