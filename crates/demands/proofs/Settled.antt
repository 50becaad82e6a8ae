-- the lines that settle it hold of our calls, and those of Class 2 (RULES, Class 2): each row is computed.
-- Assumes nothing.
use Rattle.std.proofs.Common.{refl}
use Rattle.ours.specs.Board.{ours}
use Rattle.demands.specs.Settled.{Settles, SettlesClass2}
use Rattle.demands.specs.Computing.{computing}

pub settled : Settles ours
unfolding computing
settled = record {
  lines = (refl, (refl, (refl, (refl, (refl, (refl, (refl, (refl, (refl, (refl, (refl, (refl, tt))))))))))));
  power = (refl, (refl, (refl, (refl, (refl, tt)))));
  mutes = (refl, (refl, (refl, (refl, (refl, (refl, (refl, (refl, (refl, (refl, (refl, tt)))))))))));
  host = (refl, (refl, (refl, (refl, (refl, (refl, (refl, (refl, (refl, (refl, (refl, (refl, tt))))))))))));
  texts = (refl, (refl, (refl, (refl, (refl, (refl, (refl, tt)))))));
  lamps = (refl, (refl, (refl, tt)));
  no_lamps = (refl, tt);
  opened = (refl, (refl, (refl, (refl, tt))));
  awaiting = (refl, (refl, (refl, (refl, (refl, (refl, tt))))));
}

pub settled_class_2 : SettlesClass2 ours
unfolding computing
settled_class_2 = record {
  lines = (refl, (refl, (refl, (refl, (refl, (refl, (refl, (refl, (refl, (refl, (refl, tt)))))))))));
  on = (refl, (refl, (refl, (refl, (refl, (refl, (refl, (refl, tt))))))));
  volumes = ((refl, refl), ((refl, refl), ((refl, refl), ((refl, refl), ((refl, refl), ((refl, refl), tt))))));
}
