-- The sample set-up is accepted and legal, computed.
-- Assumes nothing.
use Rattle.std.proofs.Common.{◌≡◌, refl, ap, ◌∙◌, true, [], ◌∷◌, codes}
use Rattle.record.specs.Legal.{is_legal}
use Rattle.record.specs.Wanted.{wanted_of}
use Rattle.record.specs.SetUp.{is_set_up}
use Rattle.record.specs.Computing.{computing}
use Rattle.record.specs.declared.types.Device.{Device}
use Rattle.floorlog.specs.Playing.{sample_device}

pub sample_is_set_up : is_set_up (wanted_of [] [] [] [] [] (codes "11") (0 ∷ []) 20 60) ≡ true
unfolding computing
sample_is_set_up = refl

pub sample_is_legal : (d : Device) → d ≡ sample_device → is_legal d ≡ true
unfolding computing sample_device
sample_is_legal d e = ap is_legal e ∙ refl

pub ruleset sample = (sample_is_set_up, sample_is_legal)
